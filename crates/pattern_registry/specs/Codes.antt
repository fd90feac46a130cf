-- The codes of the values.
use Rattle.std.specs.Prelude.{◌≡◌, ℕ, Bool, true, false, List, Option, refl}
use Rattle.std.specs.Coded.{Coded, code_by, coded×, coded_ℕ, coded_bool, coded_list, coded_option}
use Rattle.flux_model.specs.Pattern.{PatternGraph}
use Rattle.flux_model.specs.Tree.{QueryTree}
use Rattle.flux_model.specs.Exact.{StateRows}
use Rattle.flux_model.specs.declared.pattern.Mode.{Mode}
use Rattle.flux_model.specs.declared.pattern.Mode.TheVariants.{Hom, Iso}
use Rattle.flux_model.specs.declared.pattern.PatternEdge.{PatternEdge}
use Rattle.flux_model.specs.declared.tree.TreeLink.{TreeLink}
use Rattle.dcg_store.specs.SoundRows.{state_rows_code}
use Rattle.pattern_registry.specs.States.{PatternStates}

abbrev pub text_code : Coded (List ℕ)
text_code = coded_list coded_ℕ

abbrev is_iso : Mode → Bool
is_iso Hom = false
is_iso Iso = true

abbrev mode_of : Bool → Mode
mode_of false = Hom
mode_of true = Iso

pub mode_of-is_iso : (m : Mode) → mode_of (is_iso m) ≡ m
mode_of-is_iso Hom = refl
mode_of-is_iso Iso = refl

abbrev mode_code : Coded Mode
mode_code = code_by Bool coded_bool is_iso mode_of mode_of-is_iso

abbrev edge_code : Coded PatternEdge
edge_code =
    code_by (ℕ × (List ℕ × ℕ)) (coded× coded_ℕ (coded× text_code coded_ℕ)) (λ e. (e.tail, (e.label, e.head))) (λ p. record { tail = p.0; label = p.1.0; head = p.1.1 }) (λ _. refl)

abbrev pattern_code : Coded PatternGraph
pattern_code =
    code_by (List ℕ × (Mode × (List (List (List ℕ)) × List PatternEdge))) (coded× text_code (coded× mode_code (coded× (coded_list (coded_list text_code)) (coded_list edge_code))))
    (λ q. (q.name, (q.mode, (q.labels, q.edges)))) (λ p. record { name = p.0; mode = p.1.0; labels = p.1.1.0; edges = p.1.1.1 }) (λ _. refl)

abbrev link_code : Coded TreeLink
link_code = code_by (ℕ × ℕ) (coded× coded_ℕ coded_ℕ) (λ l. (l.parent, l.edge)) (λ p. record { parent = p.0; edge = p.1 }) (λ _. refl)

abbrev tree_code : Coded QueryTree
tree_code =
    code_by (ℕ × (List (Option TreeLink) × ℕ)) (coded× coded_ℕ (coded× (coded_list (coded_option link_code)) coded_ℕ))
    (λ t. (t.root, (t.links, t.edge_count))) (λ p. record { root = p.0; links = p.1.0; edge_count = p.1.1 }) (λ _. refl)

abbrev pub pattern_states_code : Coded PatternStates
pattern_states_code =
    code_by (List PatternGraph × (List QueryTree × (List StateRows × Bool))) (coded× (coded_list pattern_code) (coded× (coded_list tree_code) (coded× (coded_list state_rows_code) coded_bool)))
    (λ s. (s.patterns, (s.trees, (s.rows, s.is_broken)))) (λ p. record { patterns = p.0; trees = p.1.0; rows = p.1.1.0; is_broken = p.1.1.1 }) (λ _. refl)
