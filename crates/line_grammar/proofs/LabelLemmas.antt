-- Labels that are taken from words, one by one.
use Rattle.std.proofs.Common.{◌≡◌, ℕ, ◌+◌, ◌≤◌, Bool, true, false, List, [], ◌∷◌, length, Some, refl, sym, ap, ◌∙◌, ◌&&◌, arith}
use Rattle.std.specs.List.{list_all}
use Rattle.std.specs.declared.cmp.Ordering.{Ordering}
use Rattle.std.specs.declared.cmp.Ordering.TheVariants.{Less, Equal, Greater}
use Rattle.std.proofs.lemmas.Option.{cond_some}
use Rattle.flux_model.specs.Text.{text_cmp, is_text}
use Rattle.flux_model.specs.Ordered.{put}
use Rattle.flux_model.specs.Labels.{label_set, most_labels, put_all}
use Rattle.line_grammar.specs.Parts.{label_in}

-- the labels of the words but those that are left, where all are labels so far
pub record AreTaken (labels left words : List (List ℕ)) : Type 0 where
  pub room : length labels + length left ≤ most_labels
  pub set : put_all labels left ≡ label_set words
  pub texts : list_all is_text left ≡ list_all is_text words

length-put : (x : List ℕ) (xs : List (List ℕ)) → length (put text_cmp x xs) ≤ length xs + 1
length-put x [] = omega arith
length-put x (y ∷ ys) = by (text_cmp x y) refl (length-put x ys)
  where
    by : (r : Ordering) → text_cmp x y ≡ r → length (put text_cmp x ys) ≤ length ys + 1 → length (put text_cmp x (y ∷ ys)) ≤ length (y ∷ ys) + 1
    by Less e ih = rw e (omega arith)
    by Equal e ih = rw e (omega arith)
    by Greater e ih = rw e (omega arith)

-- the next word is a label
pub AreTaken-more : {labels after left rest words : List (List ℕ)} {word label : List ℕ} → AreTaken labels left words → left ≡ word ∷ rest
    → Some label ≡ label_in word → after ≡ put text_cmp label labels → AreTaken after rest words
AreTaken-more {labels} {after} {left} {rest} {words} {word} {label} taken next is added =
    let text = cond_some (is_text word) word label (sym is) in
    let grown : after ≡ put text_cmp word labels = added ∙ ap (λ x. put text_cmp x labels) (sym text.1) in
    let more = length-put word labels in
    record {
      room = omega (arith, ap length grown, ap length next, more, taken.room);
      set = ap (λ l. put_all l rest) grown ∙ ap (put_all labels) (sym next) ∙ taken.set;
      texts = by (is_text word) text.0 (ap (list_all is_text) (sym next) ∙ taken.texts);
    }
  where
    by : (b : Bool) → b ≡ true → b && list_all is_text rest ≡ list_all is_text words → list_all is_text rest ≡ list_all is_text words
    by true e h = h
    by false e h = cc
