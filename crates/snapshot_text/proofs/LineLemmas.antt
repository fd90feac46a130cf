-- The lines of vertices and of edges, as they are written.
use Rattle.std.proofs.Common.{◌≡◌, ℕ, List, [], ◌∷◌, ◌++◌, codes, sym, ap, ◌∙◌, append_assoc}
use Rattle.std.specs.List.{flat_map}
use Rattle.std.specs.Fmt.{decimal}
use Rattle.flux_model.specs.GraphText.{vertex_line, triple_line}
use Rattle.flux_model.specs.declared.graph.Triple.{Triple}
use Rattle.line_words.specs.Words.{spaced}
use Rattle.line_words.proofs.LineLemmas.{text_line-start, rest_of_line-each}

-- the parts of a vertex's line, as they are written
pub vertex_line-parts : (id number : ℕ) (labels : List (List ℕ)) → number ≡ id
    → vertex_line (record { id = id; labels = labels }) ≡ (codes "v" ++ spaced (decimal number)) ++ (flat_map spaced labels ++ 10 ∷ [])
vertex_line-parts id number labels same =
    rw same
    (text_line-start (codes "v") (decimal id) labels
    ∙ ap (λ t. (codes "v" ++ spaced (decimal id)) ++ t) (rest_of_line-each labels))

-- and those of an edge's line
pub triple_line-parts : (t : Triple) (src dst : ℕ) → src ≡ t.src → dst ≡ t.dst
    → triple_line t ≡ (codes "e" ++ spaced (decimal src)) ++ (spaced (decimal dst) ++ (spaced t.label ++ 10 ∷ []))
triple_line-parts t src dst same_src same_dst =
    rw (same_src, same_dst) (text_line-start (codes "e") (decimal t.src) (decimal t.dst ∷ t.label ∷ []))

-- a vertex's line, once each of its parts was written
pub vertex_line-written : (old started listed new : List ℕ) (id number : ℕ) (labels : List (List ℕ)) → number ≡ id
    → started ≡ old ++ (codes "v" ++ spaced (decimal number)) → listed ≡ started ++ flat_map spaced labels → new ≡ listed ++ 10 ∷ []
    → new ≡ old ++ vertex_line (record { id = id; labels = labels })
vertex_line-written old started listed new id number labels same a b c =
    c ∙ ap (λ t. t ++ 10 ∷ []) (b ∙ ap (λ t. t ++ flat_map spaced labels) a)
    ∙ to_right old (codes "v" ++ spaced (decimal number)) (flat_map spaced labels) (10 ∷ [])
    ∙ ap (λ t. old ++ t) (sym (vertex_line-parts id number labels same))
  where
    to_right : (a b c d : List ℕ) → ((a ++ b) ++ c) ++ d ≡ a ++ (b ++ (c ++ d))
    to_right a b c d = simp append_assoc
