-- What the id that a head has to have tells of a candidate.
use Rattle.std.proofs.Common.{◌≡◌, ℕ, ◌<◌, true, List, [], length, slice_index, Option, Some, None, refl, sym, ap, ◌∙◌, subst}
use Rattle.std.proofs.lemmas.Grind.{get_or-set_at}
use Rattle.flux_model.specs.Embedding.{image, is_embedding}
use Rattle.flux_model.specs.Graph.{Graph, has_triple}
use Rattle.flux_model.specs.Members.{In}
use Rattle.flux_model.specs.Partial.{with_id}
use Rattle.flux_model.specs.Pattern.{PatternGraph}
use Rattle.flux_model.specs.Tree.{edge_at}
use Rattle.flux_model.specs.declared.pattern.PatternEdge.{PatternEdge}
use Rattle.flux_model.proofs.MemberLemmas.{filter_in}
use Rattle.tree_search.specs.Aim.{aimed}
use Rattle.tree_search.specs.AimedMembers.{members_at}
use Rattle.tree_search.specs.Members.{goes_on}
use Rattle.tree_search.specs.declared.aim.Aim.{Aim}
use Rattle.tree_search.proofs.EmbeddingLemmas.{edge_has}
use Rattle.tree_search.proofs.MemberLemmas.{given_id}
use Rattle.tree_search.proofs.PassLemmas.{nothing}

-- an edge of an embedding has its triple under the ids of its ends
pub between_stands : (q : PatternGraph) (g : Graph) (m : List ℕ) → is_embedding q g m ≡ true → (i : ℕ) → i < length q.edges → (e : PatternEdge) → edge_at q i ≡ e
    → (a b x y : ℕ) → e.tail ≡ a → e.head ≡ b → slice_index m a ≡ x → slice_index m b ≡ y → has_triple g (record { src = x; label = e.label; dst = y }) ≡ true
between_stands q g m is i low e read a b x y tail head first last =
    let stands : has_triple g (image m e) ≡ true = subst (λ (f : PatternEdge). has_triple g (image m f) ≡ true) read (edge_has q g m is i low) in
    let src : slice_index m e.tail ≡ x = ap (slice_index m) tail ∙ first in
    let dst : slice_index m e.head ≡ y = ap (slice_index m) head ∙ last in
    (λ n. has_triple g (record { src = sym src n; label = e.label; dst = sym dst n })) ∙ stands

-- where none of those looked for has the id, none goes on with it
pub none_with_id : (q : PatternGraph) (g : Graph) (aim : Aim) (p : List (Option ℕ)) (w x : ℕ) → w < length p → ((m : List ℕ) → In (aimed q g aim) m → slice_index m w ≡ x → ⊥) → members_at q g aim (with_id p w x) ≡ []
none_with_id q g aim p w x inside none = nothing (members_at q g aim (with_id p w x)) (λ m i.
    let r = filter_in (goes_on (with_id p w x)) (aimed q g aim) m i in
    none m r.0 (given_id (with_id p w x) m w x r.1 (get_or-set_at p w w (Some x) None refl inside)))
