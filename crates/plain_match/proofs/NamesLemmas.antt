-- Names put into a set one after another.
use Rattle.std.proofs.Common.{◌≡◌, ℕ, ◌+◌, ◌<◌, List, [], ◌∷◌, ◌++◌, length, get_or, drop, map, refl, sym, ◌∙◌, ap, Some}
use Rattle.std.specs.List.{slice_get, flat_map}
use Rattle.std.proofs.lemmas.List.{drop_more}
use Rattle.std.proofs.lemmas.Option.{get_or_from_slice_get, slice_get_within}
use Rattle.flux_model.specs.Text.{text_cmp}
use Rattle.flux_model.specs.Ordered.{put}
use Rattle.flux_model.specs.Labels.{put_all}
use Rattle.flux_model.specs.declared.graph.Vertex.{Vertex}
use Rattle.flux_model.specs.declared.graph.Triple.{Triple}

-- what is read at a place is the first of the rest
pub rest_from : {X : Type 0} (xs : List X) (i : ℕ) (x : X) → slice_get xs i ≡ Some x → drop i xs ≡ x ∷ drop (i + 1) xs
rest_from xs i x e = drop_more xs i x (slice_get_within xs i x e) ∙ ap (λ y. y ∷ drop (i + 1) xs) (get_or_from_slice_get xs i x x e)

-- one name less is left to put
pub put_all_step : (set names : List (List ℕ)) (i : ℕ) (name : List ℕ) → slice_get names i ≡ Some name → put_all (put text_cmp name set) (drop (i + 1) names) ≡ put_all set (drop i names)
put_all_step set names i name e = ap (put_all set) (sym (rest_from names i name e))

-- names in two parts
pub put_all_parts : (set xs ys : List (List ℕ)) → put_all (put_all set xs) ys ≡ put_all set (xs ++ ys)
put_all_parts set [] ys = refl
put_all_parts set (x ∷ xs) ys = put_all_parts (put text_cmp x set) xs ys

-- the rest of a list where its element at a place is read
from_read : {X : Type 0} (xs : List X) (i : ℕ) (x : X) → i < length xs → x ≡ get_or xs i x → drop i xs ≡ x ∷ drop (i + 1) xs
from_read xs i x h e = drop_more xs i x h ∙ ap (λ y. y ∷ drop (i + 1) xs) (sym e)

-- the labels of one vertex less
pub put_all_vertex : (set : List (List ℕ)) (vs : List Vertex) (i : ℕ) (v : Vertex) → i < length vs → v ≡ get_or vs i v → put_all (put_all set v.labels) (flat_map (λ (w : Vertex). w.labels) (drop (i + 1) vs)) ≡ put_all set (flat_map (λ (w : Vertex). w.labels) (drop i vs))
put_all_vertex set vs i v h e =
    put_all_parts set v.labels (flat_map (λ (w : Vertex). w.labels) (drop (i + 1) vs))
    ∙ ap (λ ws. put_all set (flat_map (λ (w : Vertex). w.labels) ws)) (sym (from_read vs i v h e))

-- the label of one triple less
pub put_all_triple : (set : List (List ℕ)) (ts : List Triple) (i : ℕ) (t : Triple) → i < length ts → t ≡ get_or ts i t → put_all (put text_cmp t.label set) (map (λ (s : Triple). s.label) (drop (i + 1) ts)) ≡ put_all set (map (λ (s : Triple). s.label) (drop i ts))
put_all_triple set ts i t h e = ap (λ ss. put_all set (map (λ (s : Triple). s.label) ss)) (sym (from_read ts i t h e))
