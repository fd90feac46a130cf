-- The place of a name among the entries of a shelf, and the entries with other bytes there.
use Rattle.std.proofs.Common.{◌≡◌, ◌≢◌, ℕ, List, [], ◌∷◌, ◌++◌, set, get_or, sym, ap, ◌∙◌, None, Some, string_bytes}
use Rattle.std.proofs.lemmas.List.{map-set, map-append}
use Rattle.std.proofs.Math.ListN.{get_or-map}
use Rattle.flux_outside.specs.declared.mem_shelf.Entry.{Entry}
use Rattle.flux_outside.specs.Entries.{seen_entry, seen_entries}
use Rattle.flux_outside.specs.MemShelf.{bytes_of, place_from}
use Rattle.flux_outside.proofs.Places.{IsPlaceOf, place_from-first, IsPlaceOf-name, bytes_of-place, bytes_of-place_from, bytes_of-set, bytes_of-set_other, bytes_of-push, bytes_of-push_other}

-- the entry with this index is the first with this name
abbrev pub IsPlace : List Entry → List ℕ → ℕ → Type 0
IsPlace entries name i = Some i ≡ place_from 0 (seen_entries entries) name

-- the same entries have the same places
pub IsPlace-same : (es old : List Entry) (name : List ℕ) (i : ℕ) → es ≡ old → IsPlace es name i → IsPlace old name i
IsPlace-same es old name i same at = at ∙ ap (λ l. place_from 0 (seen_entries l) name) same

-- a place among entries is one among what is seen of them
pub IsPlace-first : (es : List Entry) (name : List ℕ) (i : ℕ) → IsPlace es name i → IsPlaceOf (seen_entries es) name i
IsPlace-first es name i at = place_from-first (seen_entries es) name i (sym at)

-- the entry at the place of a name has this name
pub IsPlace-name : (es : List Entry) (name : List ℕ) (i : ℕ) (e : Entry) → IsPlace es name i → e ≡ get_or es i e → string_bytes e.name ≡ name
IsPlace-name es name i e at is =
    ap (λ x. string_bytes x.name) is ∙ ap (λ x. x.0) (sym (get_or-map seen_entry es i e))
    ∙ IsPlaceOf-name (seen_entries es) name i (seen_entry e) (IsPlace-first es name i at)

-- and the bytes of this name
pub IsPlace-bytes : (es : List Entry) (name : List ℕ) (i : ℕ) (d : Entry) → IsPlace es name i
    → bytes_of (seen_entries es) name ≡ Some (get_or es i d).bytes.items
IsPlace-bytes es name i d at =
    bytes_of-place (seen_entries es) name i (seen_entry d) (IsPlace-first es name i at) ∙ ap (λ x. Some x.1) (get_or-map seen_entry es i d)

-- the bytes of a name whose entry is set anew
pub bytes_of-set_entry : (es : List Entry) (name : List ℕ) (i : ℕ) (e : Entry) → IsPlace es name i → string_bytes e.name ≡ name
    → bytes_of (seen_entries (set es i e)) name ≡ Some e.bytes.items
bytes_of-set_entry es name i e at here =
    ap (λ l. bytes_of l name) (map-set seen_entry es i e) ∙ bytes_of-set (seen_entries es) name i (seen_entry e) (IsPlace-first es name i at) here

-- those of another name stay
pub bytes_of-set_entry_other : (es : List Entry) (name other : List ℕ) (i : ℕ) (e : Entry) → IsPlace es name i → string_bytes e.name ≡ name → other ≢ name
    → bytes_of (seen_entries (set es i e)) other ≡ bytes_of (seen_entries es) other
bytes_of-set_entry_other es name other i e at here ne =
    ap (λ l. bytes_of l other) (map-set seen_entry es i e)
    ∙ bytes_of-set_other (seen_entries es) name other i (seen_entry e) (IsPlace-first es name i at) here ne

-- the bytes of a name that is added
pub bytes_of-push_entry : (es all : List Entry) (name : List ℕ) (e : Entry) → None ≡ place_from 0 (seen_entries es) name
    → all ≡ es ++ e ∷ [] → string_bytes e.name ≡ name → bytes_of (seen_entries all) name ≡ Some e.bytes.items
bytes_of-push_entry es all name e none grown here =
    ap (λ l. bytes_of (seen_entries l) name) grown ∙ ap (λ l. bytes_of l name) (map-append seen_entry es (e ∷ []))
    ∙ ap (λ n. bytes_of (seen_entries es ++ (n, e.bytes.items) ∷ []) name) here
    ∙ bytes_of-push (seen_entries es) name e.bytes.items (bytes_of-place_from 0 (seen_entries es) name (sym none))

-- those of another name stay
pub bytes_of-push_entry_other : (es all : List Entry) (name other : List ℕ) (e : Entry)
    → all ≡ es ++ e ∷ [] → string_bytes e.name ≡ name → other ≢ name → bytes_of (seen_entries all) other ≡ bytes_of (seen_entries es) other
bytes_of-push_entry_other es all name other e grown here ne =
    ap (λ l. bytes_of (seen_entries l) other) grown ∙ ap (λ l. bytes_of l other) (map-append seen_entry es (e ∷ []))
    ∙ bytes_of-push_other (seen_entries es) (string_bytes e.name) other e.bytes.items (λ same. ne (same ∙ here))
