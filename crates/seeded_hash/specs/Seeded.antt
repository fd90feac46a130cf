-- What a hasher starts from.
use Rattle.std.specs.declared.hash.FoldHasher.{FoldHasher}
use Rattle.seeded_hash.specs.declared.SeededState.{SeededState}

-- the hasher of each key, before the key is read
abbrev pub initial_hasher : SeededState → FoldHasher
initial_hasher s = s.initial
