-- The exit statuses, and the line that standard error gets of each.
use Rattle.std.specs.Prelude.{ℕ, List, [], ◌++◌, codes}
use Rattle.std.specs.Fmt.{decimal}
use Rattle.flux_model.specs.Code.{code_word}
use Rattle.flux_model.specs.declared.code.Code.{Code}
use Rattle.watch_cli.specs.declared.status.Status.{Status}
use Rattle.watch_cli.specs.declared.status.Status.TheVariants.{Done, Usage, NoFile, BadGraph, BadPatterns, TooMuch}
use Rattle.watch_cli.specs.declared.status.Status.TheVariants.{ReadFault, WriteFault, Memory}

-- where a file is refused, and why: `graph line 2: novertex`
abbrev pub refusal_text : List ℕ → ℕ → Code → List ℕ
refusal_text file line code = codes "turboflux: " ++ file ++ codes " line " ++ decimal line ++ codes ": " ++ code_word code ++ codes "\n"

-- the line for standard error
abbrev pub status_text : Status → List ℕ
status_text Done = []
status_text Usage = codes "turboflux: unknown command or wrong arguments\n"
status_text (BadGraph line code) = refusal_text (codes "graph") line code
status_text (BadPatterns line code) = refusal_text (codes "patterns") line code
status_text NoFile = codes "turboflux: no such file\n"
status_text ReadFault = codes "turboflux: read fault\n"
status_text WriteFault = codes "turboflux: write fault\n"
status_text Memory = codes "turboflux: out of memory\n"
status_text TooMuch = codes "turboflux: input too large\n"

-- the exit status
abbrev pub status_number : Status → ℕ
status_number Done = 0
status_number Usage = 2
status_number (BadGraph _ _) = 3
status_number (BadPatterns _ _) = 4
status_number NoFile = 1
status_number ReadFault = 5
status_number WriteFault = 6
status_number Memory = 7
status_number TooMuch = 8
