-- A vertex without an explicit pair leaves no embedding.
use Rattle.std.proofs.Common.{◌≡◌, ℕ, ◌<◌, ◌≤◌, true, ◌==◌, List, [], ◌∷◌, filter, length, arith}
use Rattle.std.specs.Prelude.{slice_index}
use Rattle.std.specs.List.{list_any, range_with_len}
use Rattle.std.proofs.lemmas.Bool.{eqb-true}
use Rattle.std.proofs.lemmas.List.Sums.{length-filter}
use Rattle.flux_model.specs.Embedding.{embeddings}
use Rattle.flux_model.specs.Exact.{StateRows, IsExact}
use Rattle.flux_model.specs.Graph.{Graph, IsGraph, ids}
use Rattle.flux_model.specs.Pattern.{PatternGraph, vertex_count}
use Rattle.flux_model.specs.States.{joined, is_explicit}
use Rattle.flux_model.specs.Tree.{QueryTree, BelongsTo}
use Rattle.dcg_store.specs.SoundRows.{live_count}
use Rattle.flux_model.specs.Members.{In}
use Rattle.flux_model.proofs.MemberLemmas.{in_filter, in_any, range_in}
use Rattle.tree_search.proofs.ChosenLemmas.{explicit_chosen}
use Rattle.tree_search.proofs.EmbeddingLemmas.{embedding_of, id_fits, vertex_of_fits}
use Rattle.tree_search.proofs.PassLemmas.{nothing}
use Rattle.tree_search.proofs.TieLemmas.{live_of}
use Rattle.tree_search.proofs.TurnLemmas.{vertex_listed}

some_length : (xs : List ℕ) (x : ℕ) → In xs x → 1 ≤ length xs
some_length [] x i = absurd i
some_length (y ∷ xs) x i = omega arith

module _ (q : PatternGraph) (t : QueryTree) (d : StateRows) (g : Graph) (belongs : BelongsTo q t) (exact : IsExact q t g d) (is : IsGraph g) where
  -- where some vertex has no explicit pair, there is no embedding
  pub barren_none : list_any (λ u. live_count d u == 0) (range_with_len 0 (vertex_count q)) ≡ true → embeddings q g ≡ []
  barren_none barren = nothing (embeddings q g) (λ m i.
      let u = in_any (λ u. live_count d u == 0) (range_with_len 0 (vertex_count q)) barren in
      let embeds = embedding_of q g m i in
      let x = slice_index m u.0 in
      let within = range_in 0 (vertex_count q) u.0 u.1 in
      let inside : u.0 < vertex_count q = omega (arith, within.1) in
      let there : In (ids g) x = vertex_listed g x (vertex_of_fits q g u.0 x (id_fits q g m embeds u.0 inside)) in
      let one = some_length (filter (is_explicit (joined q t g) u.0) (ids g)) x (in_filter (is_explicit (joined q t g) u.0) (ids g) x there (explicit_chosen q t g belongs m embeds u.0 inside)) in
      let none : live_count d u.0 ≡ 0 = eqb-true (live_count d u.0) 0 u.2 in
      omega (arith, one, none, live_of q t d g belongs exact is u.0, length-filter (is_explicit (joined q t g) u.0) (ids g)))
