-- Links that lead to the root, and one link more.
use Rattle.std.proofs.Common.{◌≡◌, ◌≢◌, ℕ, zero, suc, ◌<◌, Bool, true, false, ◌||◌, ◌==◌, length, set, Option, Some, None, is_some, refl, sym, ap, ◌∙◌}
use Rattle.std.proofs.Math.Bool.{or-false}
use Rattle.std.proofs.lemmas.Bool.{or_right}
use Rattle.std.proofs.lemmas.List.{get_or-set_same, get_or-set_other}
use Rattle.flux_model.specs.Tree.{QueryTree, link_at, is_placed, hangs_within}
use Rattle.flux_model.specs.declared.tree.TreeLink.{TreeLink}

or_same : (b x y : Bool) → (x ≡ true → y ≡ true) → b || x ≡ true → b || y ≡ true
or_same true x y f h = refl
or_same false x y f h = f h

module _ (t : QueryTree) where
  pub hangs_up : (k u : ℕ) (l : TreeLink) → link_at t u ≡ Some l → hangs_within (suc k) t u ≡ (u == t.root || hangs_within k t l.parent)
  hangs_up k u l e = rw e refl

  pub hangs_loose : (k u : ℕ) → link_at t u ≡ None → hangs_within (suc k) t u ≡ (u == t.root)
  hangs_loose k u e = rw e (or-false (u == t.root))

  -- the root hangs within any number of links
  pub hangs_root : (k u : ℕ) → (u == t.root) ≡ true → hangs_within k t u ≡ true
  hangs_root zero u h = h
  hangs_root (suc k) u h = rw h refl

  pub hangs_longer : (k u : ℕ) → hangs_within k t u ≡ true → hangs_within (suc k) t u ≡ true
  hangs_longer zero u h = hangs_root 1 u h
  hangs_longer (suc k) u h = by (link_at t u) refl (hangs_longer k)
    where
      by : (o : Option TreeLink) → link_at t u ≡ o → ((v : ℕ) → hangs_within k t v ≡ true → hangs_within (suc k) t v ≡ true) → hangs_within (suc (suc k)) t u ≡ true
      by None e rest = hangs_root (suc (suc k)) u (sym (hangs_loose k u e) ∙ h)
      by (Some l) e rest =
          hangs_up (suc k) u l e
          ∙ or_same (u == t.root) (hangs_within k t l.parent) (hangs_within (suc k) t l.parent) (rest l.parent) (sym (hangs_up k u l e) ∙ h)

  placed_link : (u : ℕ) (l : TreeLink) → link_at t u ≡ Some l → is_placed t u ≡ true
  placed_link u l e = or_right (u == t.root) (is_some (link_at t u)) (ap is_some e)

-- ---- vertex c, which is not placed, gets the link l

-- the tree with one link more
abbrev pub hung_from : QueryTree → ℕ → TreeLink → QueryTree
hung_from t c l = record t { links = set t.links c (Some l) }

module _ (t : QueryTree) (c : ℕ) (l : TreeLink) (inside : c < length t.links) (free : is_placed t c ≡ false) where
  abbrev hung : QueryTree
  hung = hung_from t c l

  pub link_new : link_at hung c ≡ Some l
  link_new = get_or-set_same t.links c (Some l) None inside

  pub link_old : (u : ℕ) → u ≢ c → link_at hung u ≡ link_at t u
  link_old u other = get_or-set_other t.links c u (Some l) None other

  pub other_placed : (u : ℕ) → is_placed t u ≡ true → u ≢ c
  other_placed u h same = let e : is_placed t u ≡ is_placed t c = ap (is_placed t) same in cc

  pub placed_old : (u : ℕ) → is_placed t u ≡ true → is_placed hung u ≡ true
  placed_old u h = ap (λ o. u == t.root || is_some o) (link_old u (other_placed u h)) ∙ h

  pub placed_new : is_placed hung c ≡ true
  placed_new = placed_link hung c l link_new

  -- what is placed now was placed before, or is c
  pub placed_before : (u : ℕ) → u ≢ c → is_placed hung u ≡ true → is_placed t u ≡ true
  placed_before u other h = sym (ap (λ o. u == t.root || is_some o) (link_old u other)) ∙ h

  pub hangs_kept : (k u : ℕ) → hangs_within k t u ≡ true → hangs_within k hung u ≡ true
  hangs_kept zero u h = h
  hangs_kept (suc k) u h = by (link_at t u) refl (hangs_kept k)
    where
      by : (o : Option TreeLink) → link_at t u ≡ o → ((v : ℕ) → hangs_within k t v ≡ true → hangs_within k hung v ≡ true) → hangs_within (suc k) hung u ≡ true
      by None e rest = hangs_root hung (suc k) u (sym (hangs_loose t k u e) ∙ h)
      by (Some m) e rest =
          let now : link_at hung u ≡ Some m = link_old u (other_placed u (placed_link t u m e)) ∙ e in
          hangs_up hung k u m now
          ∙ or_same (u == t.root) (hangs_within k t m.parent) (hangs_within k hung m.parent) (rest m.parent) (sym (hangs_up t k u m e) ∙ h)

  pub hangs_new : (k : ℕ) → hangs_within k t l.parent ≡ true → hangs_within (suc k) hung c ≡ true
  hangs_new k h = hangs_up hung k c l link_new ∙ or_right (c == t.root) (hangs_within k hung l.parent) (hangs_kept k l.parent h)
