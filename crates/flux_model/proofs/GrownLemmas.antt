-- A text that grows by a front part: parts written one after the other.
use Rattle.std.proofs.Common.{◌≡◌, ℕ, ◌+◌, ◌<◌, List, [], ◌∷◌, ◌++◌, length, take, drop, refl, sym, ap, ◌∙◌, append_assoc, Result, Ok, Err, OnOk, OnErr, Some}
use Rattle.std.specs.List.{flat_map, slice_get}
use Rattle.std.proofs.lemmas.List.{append-nil, take-append-drop, drop_more, take_more}
use Rattle.std.proofs.lemmas.List.Concat.{flat_map-append}
use Rattle.std.proofs.lemmas.Option.{slice_get_within, get_or_from_slice_get}
use Rattle.flux_model.specs.Grown.{GrewByFront}

-- what holds anyway holds where the result is Err
pub on_err : {T E P : Type 0} (r : Result T E) → P → OnErr r P
on_err (Ok x) p = tt
on_err (Err e) p = p

-- what holds anyway holds where the result is Ok
pub on_ok : {T E P : Type 0} (r : Result T E) → P → OnOk r P
on_ok (Ok x) p = p
on_ok (Err e) p = tt

-- nothing was written
pub grew_none : (old new text : List ℕ) → new ≡ old → GrewByFront old new text
grew_none old new text e = record { part = []; left = text; text_is = refl; new_is = e ∙ sym (append-nil old) }

-- writing stopped in the first part
pub grew_first : (old new first rest : List ℕ) → GrewByFront old new first → GrewByFront old new (first ++ rest)
grew_first old new first rest g = record {
  part = g.part;
  left = g.left ++ rest;
  text_is = ap (λ t. t ++ rest) g.text_is ∙ append_assoc g.part g.left rest;
  new_is = g.new_is;
}

-- the first part was written, and writing stopped later
pub grew_later : (old mid new first rest : List ℕ) → mid ≡ old ++ first → GrewByFront mid new rest → GrewByFront old new (first ++ rest)
grew_later old mid new first rest e g = record {
  part = first ++ g.part;
  left = g.left;
  text_is = ap (λ t. first ++ t) g.text_is ∙ sym (append_assoc first g.part g.left);
  new_is = g.new_is ∙ ap (λ t. t ++ g.part) e ∙ append_assoc old first g.part;
}

-- the same text in another form
pub grew_same : (old new text same : List ℕ) → text ≡ same → GrewByFront old new same → GrewByFront old new text
grew_same old new text same e g = record { part = g.part; left = g.left; text_is = e ∙ g.text_is; new_is = g.new_is }

-- ---- a part for each element of a list

module _ {X : Type 0} (F : X → List ℕ) where
  flat_map_at : (xs : List X) (i : ℕ) (x : X) → slice_get xs i ≡ Some x → flat_map F xs ≡ flat_map F (take i xs) ++ (F x ++ flat_map F (drop (i + 1) xs))
  flat_map_at xs i x e =
      let h : i < length xs = slice_get_within xs i x e in
      let here : drop i xs ≡ x ∷ drop (i + 1) xs = drop_more xs i x h ∙ ap (λ y. y ∷ drop (i + 1) xs) (get_or_from_slice_get xs i x x e) in
      ap (flat_map F) (sym (take-append-drop i xs))
      ∙ flat_map-append F (take i xs) (drop i xs)
      ∙ ap (λ t. flat_map F (take i xs) ++ flat_map F t) here

  -- the part of one more element was written
  pub flat_map_next : (old mid new : List ℕ) (xs : List X) (i : ℕ) (x : X) → slice_get xs i ≡ Some x → mid ≡ old ++ flat_map F (take i xs) → new ≡ mid ++ F x → new ≡ old ++ flat_map F (take (i + 1) xs)
  flat_map_next old mid new xs i x e before now =
      let h : i < length xs = slice_get_within xs i x e in
      let one : flat_map F (take (i + 1) xs) ≡ flat_map F (take i xs) ++ F x =
      ap (flat_map F) (take_more xs i x h ∙ ap (λ y. take i xs ++ y ∷ []) (get_or_from_slice_get xs i x x e))
      ∙ flat_map-append F (take i xs) (x ∷ [])
      ∙ ap (λ t. flat_map F (take i xs) ++ t) (append-nil (F x)) in
      now ∙ ap (λ t. t ++ F x) before ∙ append_assoc old (flat_map F (take i xs)) (F x) ∙ ap (λ t. old ++ t) (sym one)

  -- writing stopped in the part of an element
  pub grew_at : (old mid new : List ℕ) (xs : List X) (i : ℕ) (x : X) → slice_get xs i ≡ Some x → mid ≡ old ++ flat_map F (take i xs) → GrewByFront mid new (F x) → GrewByFront old new (flat_map F xs)
  grew_at old mid new xs i x e before g =
      grew_same _ _ _ _ (flat_map_at xs i x e)
      (grew_later _ _ _ _ _ before (grew_first _ _ _ _ g))
