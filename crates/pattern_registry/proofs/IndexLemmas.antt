-- What is kept of each pattern, as the lists that a contract sees.
use Rattle.std.proofs.Common.{◌≡◌, ℕ, zero, suc, ◌+◌, ◌<◌, ◌≤◌, Bool, false, List, [], ◌∷◌, ◌++◌, length, get_or, take, map, refl, sym, ap, subst, ◌∙◌}
use Rattle.std.specs.Prelude.{Some}
use Rattle.std.specs.List.{AllZip, slice_get}
use Rattle.std.specs.Option.{option_map}
use Rattle.std.proofs.lemmas.List.{take_more, take_all, length-map}
use Rattle.std.proofs.lemmas.Slice.Zip.{AllZip-long}
use Rattle.std.proofs.lemmas.Option.{slice_get-map, slice_get_within, get_or_from_slice_get, slice_get_read, none-some, same_Some}
use Rattle.flux_model.specs.Graph.{Graph}
use Rattle.flux_model.specs.Pattern.{PatternGraph}
use Rattle.flux_model.specs.Tree.{QueryTree, tree, BelongsTo}
use Rattle.flux_model.specs.Exact.{StateRows, IsExact}
use Rattle.pattern_registry.specs.declared.index.PatternIndex.{PatternIndex}
use Rattle.pattern_registry.specs.States.{PatternStates, IsIndexed, AreExact, trees_over}
use Rattle.pattern_registry.specs.Indexes.{pattern_states, IsStarted}
use Rattle.pattern_registry.proofs.ZipLemmas.{AllZip-append}

abbrev tree_of : PatternIndex → QueryTree
tree_of i = i.tree

abbrev dcg_of : PatternIndex → StateRows
dcg_of i = i.dcg

-- ---- of one pattern

module _ (s : PatternStates) (patterns : List PatternGraph) (indexes : List PatternIndex) (broken : Bool) (k : ℕ) (index : PatternIndex) where
  read_here : pattern_states patterns indexes broken ≡ s → IsIndexed (pattern_states patterns indexes broken) → k < length s.patterns → index ≡ get_or indexes k index → slice_get indexes k ≡ Some index
  read_here seen indexed within here =
      let count : length s.patterns ≡ length indexes = ap (λ (s : PatternStates). length s.patterns) (sym seen) ∙ sym indexed.rows ∙ length-map indexes dcg_of in
      slice_get_read indexes (length s.patterns) k index count within here

  -- the tree and the rows at a place are those that are kept there
  pub belongs_here : pattern_states patterns indexes broken ≡ s → IsIndexed (pattern_states patterns indexes broken) → k < length s.patterns → index ≡ get_or indexes k index
      → (q : PatternGraph) → slice_get s.patterns k ≡ Some q → BelongsTo q index.tree
  belongs_here seen indexed within here q e =
      indexed.belongs k q index.tree (ap (λ (s : PatternStates). slice_get s.patterns k) seen ∙ e)
      (slice_get-map tree_of indexes k ∙ ap (option_map tree_of) (read_here seen indexed within here))

  pub whole_here : pattern_states patterns indexes broken ≡ s → IsIndexed (pattern_states patterns indexes broken) → k < length s.patterns → index ≡ get_or indexes k index
      → s.is_broken ≡ false → index.dcg.is_broken ≡ false
  whole_here seen indexed within here whole =
      indexed.whole (ap (λ (s : PatternStates). s.is_broken) seen ∙ whole) k index.dcg
      (slice_get-map dcg_of indexes k ∙ ap (option_map dcg_of) (read_here seen indexed within here))

-- ---- of all

pub started_next : (g : Graph) (qs : List PatternGraph) (old new : List PatternIndex) (k : ℕ) (q : PatternGraph) (index : PatternIndex) → slice_get qs k ≡ Some q
    → AllZip (IsStarted g) (take k qs) old → IsStarted g q index → new ≡ old ++ index ∷ [] → AllZip (IsStarted g) (take (k + 1) qs) new
started_next g qs old new k q index e before here now =
    let more : take (k + 1) qs ≡ take k qs ++ q ∷ [] = take_more qs k q (slice_get_within qs k q e) ∙ ap (λ r. take k qs ++ r ∷ []) (get_or_from_slice_get qs k q q e) in
    rw (more, now) (AllZip-append (IsStarted g) (take k qs) (q ∷ []) old (index ∷ []) before (here, tt))

-- the tree and the rows at one place are those of one pattern
tree_belongs : (g : Graph) (patterns : List PatternGraph) (indexes : List PatternIndex) → AllZip (IsStarted g) patterns indexes
    → (k : ℕ) (q : PatternGraph) (t : QueryTree) → slice_get patterns k ≡ Some q → slice_get (map tree_of indexes) k ≡ Some t → BelongsTo q t
tree_belongs g [] indexes a k q t e f = absurd (none-some q e)
tree_belongs g (p ∷ ps) [] a k q t e f = absurd a
tree_belongs g (p ∷ ps) (i ∷ is) a zero q t e f = subst (λ r. BelongsTo r t) (same_Some p q e) (subst (BelongsTo p) (same_Some i.tree t f) a.0.belongs)
tree_belongs g (p ∷ ps) (i ∷ is) a (suc k) q t e f = tree_belongs g ps is a.1 k q t e f

rows_whole : (g : Graph) (patterns : List PatternGraph) (indexes : List PatternIndex) → AllZip (IsStarted g) patterns indexes → (k : ℕ) (d : StateRows) → slice_get (map dcg_of indexes) k ≡ Some d → d.is_broken ≡ false
rows_whole g patterns [] a k d h = absurd (none-some d h)
rows_whole g [] (i ∷ is) a k d h = absurd a
rows_whole g (p ∷ ps) (i ∷ is) a zero d h = subst (λ (r : StateRows). r.is_broken ≡ false) (same_Some i.dcg d h) a.0.exact.whole
rows_whole g (p ∷ ps) (i ∷ is) a (suc k) d h = rows_whole g ps is a.1 k d h

rows_exact : (g : Graph) (patterns : List PatternGraph) (indexes : List PatternIndex) → AllZip (IsStarted g) patterns indexes
    → (k : ℕ) (q : PatternGraph) (t : QueryTree) (d : StateRows) → slice_get patterns k ≡ Some q → slice_get (map tree_of indexes) k ≡ Some t → slice_get (map dcg_of indexes) k ≡ Some d → IsExact q t g d
rows_exact g [] indexes a k q t d e f h = absurd (none-some q e)
rows_exact g (p ∷ ps) [] a k q t d e f h = absurd a
rows_exact g (p ∷ ps) (i ∷ is) a zero q t d e f h =
    let rows : IsExact p i.tree g d = subst (λ r. IsExact p i.tree g r) (same_Some i.dcg d h) a.0.exact in
    subst (λ r. IsExact r t g d) (same_Some p q e) (subst (λ r. IsExact p r g d) (same_Some i.tree t f) rows)
rows_exact g (p ∷ ps) (i ∷ is) a (suc k) q t d e f h = rows_exact g ps is a.1 k q t d e f h

trees_chosen : (g : Graph) (patterns : List PatternGraph) (indexes : List PatternIndex) → AllZip (IsStarted g) patterns indexes → map tree_of indexes ≡ trees_over g patterns
trees_chosen g [] [] a = refl
trees_chosen g [] (i ∷ is) a = absurd a
trees_chosen g (p ∷ ps) [] a = absurd a
trees_chosen g (p ∷ ps) (i ∷ is) a = ap (λ t. t ∷ map tree_of is) a.0.chosen ∙ ap (λ ts. tree p g ∷ ts) (trees_chosen g ps is a.1)

-- those so far are all
pub started-all : (g : Graph) (n : ℕ) (patterns : List PatternGraph) (indexes : List PatternIndex) → length patterns ≤ n → AllZip (IsStarted g) (take n patterns) indexes → AllZip (IsStarted g) patterns indexes
started-all g n patterns indexes all so_far = subst (λ qs. AllZip (IsStarted g) qs indexes) (take_all n patterns all) so_far

module _ (g : Graph) (patterns : List PatternGraph) (indexes : List PatternIndex) (started : AllZip (IsStarted g) patterns indexes) where
  pub started-indexed : IsIndexed (pattern_states patterns indexes false)
  started-indexed = record {
    trees = length-map indexes tree_of ∙ AllZip-long (IsStarted g) patterns indexes started;
    rows = length-map indexes dcg_of ∙ AllZip-long (IsStarted g) patterns indexes started;
    belongs = tree_belongs g patterns indexes started;
    whole = λ _. rows_whole g patterns indexes started;
  }

  pub started-exact : AreExact (pattern_states patterns indexes false) g
  started-exact = record { whole = refl; each = rows_exact g patterns indexes started }

  pub started-trees : map tree_of indexes ≡ trees_over g patterns
  started-trees = trees_chosen g patterns indexes started
