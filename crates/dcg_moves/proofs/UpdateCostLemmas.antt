-- What the loops over the tree edges spend is within the cost of the move and two steps at each tree edge with the label.
use Rattle.std.proofs.Common.{◌≡◌, ◌≢◌, ℕ, zero, suc, ◌+◌, ◌*◌, ◌<◌, ◌≤◌, Bool, true, false, ◌&&◌, ◌||◌, not, cond, nat_lt, List, [], ◌∷◌, inl, inr, refl, sym, ap, ◌∙◌, arith, add-one, ◌==◌, map}
use Rattle.std.specs.Prelude.{sum_by, Option, None, Some, is_some, IsPermutation}
use Rattle.std.specs.List.{range_with_len, list_any, slice_index_or}
use Rattle.std.specs.Str.{bytes_eq}
use Rattle.std.proofs.lemmas.Bool.{cases_eq, and_parts, and_from, or_left, or_right, eq-eqb, ne_eqb, eqb-false, ltb-true}
use Rattle.std.proofs.lemmas.List.Folds.{list_any_at}
use Rattle.std.proofs.lemmas.List.Sums.{sum_by-cons}
use Rattle.std.proofs.lemmas.List.Sorted.{sum_by-IsPermutation}
use Rattle.flux_model.specs.Costs.{degree}
use Rattle.flux_model.specs.Graph.{Graph, ids}
use Rattle.flux_model.specs.Labels.{is_within}
use Rattle.flux_model.specs.Pattern.{PatternGraph, vertex_count, fits, fits_labels, fits_edge}
use Rattle.flux_model.specs.Tree.{QueryTree, link_at, edge_at, BelongsTo}
use Rattle.flux_model.specs.States.{Joint, joint_of, joined}
use Rattle.flux_model.specs.declared.graph.Triple.{Triple}
use Rattle.flux_model.specs.declared.graph.Vertex.{Vertex}
use Rattle.flux_model.specs.declared.pattern.PatternEdge.{PatternEdge}
use Rattle.flux_model.specs.declared.tree.TreeLink.{TreeLink}
use Rattle.dcg_moves.proofs.LinkEndLemmas.{apart, ends_down, ends_up}
use Rattle.flux_model.specs.Costs.{has_moved, is_end, touched, move_cost}
use Rattle.dcg_moves.proofs.UpdateLemmas.{edges_more, labels_more}
use Rattle.dcg_moves.proofs.WeightLemmas.{in_below}
use Rattle.dcg_moves.proofs.MoveCostLemmas.{sum_pairs}
use Rattle.dcg_moves.specs.Update.{Update, edge_cost, edges_cost, label_cost, labels_cost}

abbrev bit : Bool → ℕ
bit b = cond b 1 0

sum_has : (g : ℕ → ℕ) (x : ℕ) (xs : List ℕ) → list_any (λ z. z == x) xs ≡ true → g x ≤ sum_by g xs
sum_has g x [] m = absurd (let bad : false ≡ true = m in cc)
sum_has g x (y ∷ ys) m =
    let split = sum_by-cons g y ys in
    elim (cases_eq y x) [
      | inl e ↦ let f = ap g e in omega (arith, f, split)
      | inr ne ↦ let more = sum_has g x ys (sym (ap (λ b. b || list_any (λ z. z == x) ys) (ne_eqb y x ne)) ∙ m) in omega (arith, more, split)
    ]

any_at : (p : ℕ → Bool) (x : ℕ) (xs : List ℕ) → list_any (λ z. z == x) xs ≡ true → p x ≡ true → list_any p xs ≡ true
any_at p x [] m h = absurd (let bad : false ≡ true = m in cc)
any_at p x (y ∷ ys) m h =
    elim (cases_eq y x) [
      | inl e ↦ or_left (p y) (list_any p ys) (ap p e ∙ h)
      | inr ne ↦ or_right (p y) (list_any p ys) (any_at p x ys (sym (ap (λ b. b || list_any (λ z. z == x) ys) (ne_eqb y x ne)) ∙ m) h)
    ]

-- members are vertices of the graph
pub any_id : (q : PatternGraph) (u : ℕ) (g : Graph) (v : ℕ) → fits q u g v ≡ true → list_any (λ z. z == v) (ids g) ≡ true
any_id q u g v member = walk g.vertices (and_parts (nat_lt u (vertex_count q)) (fits_labels g (slice_index_or q.labels u []) v) member).1
  where
    walk : (vs : List Vertex) → list_any (λ x. x.id == v && is_within (slice_index_or q.labels u []) x.labels) vs ≡ true → list_any (λ z. z == v) (map (λ x. x.id) vs) ≡ true
    walk [] h = h
    walk (x ∷ xs) h =
        elim (cases_eq x.id v) [
          | inl e ↦ ap (λ b. b || list_any (λ z. z == v) (map (λ (y : Vertex). y.id) xs)) (eq-eqb x.id v e)
          | inr ne ↦
              ap (λ b. b || list_any (λ z. z == v) (map (λ (y : Vertex). y.id) xs)) (ne_eqb x.id v ne)
              ∙ walk xs (sym (ap (λ b. b && is_within (slice_index_or q.labels u []) x.labels || list_any (λ (y : Vertex). y.id == v && is_within (slice_index_or q.labels u []) y.labels) xs) (ne_eqb x.id v ne)) ∙ h)
        ]

some_if : (b : Bool) (x l : Joint) → cond b (Some x) None ≡ Some l → b ≡ true
some_if true x l h = refl
some_if false x l h = absurd (let bad : None ≡ Some l = h in cc)

-- a triple that is a joint of u's tree edge fits that edge
module _ (q : PatternGraph) (t : QueryTree) (belongs : BelongsTo q t) (large : Graph) (e : Triple) (u : ℕ) (l : Joint) (joint : joint_of q t large u e ≡ Some l) where
  link_of_joint : (k : TreeLink) × (link_at t u ≡ Some k)
  link_of_joint = by (link_at t u) refl
    where
      by : (o : Option TreeLink) → link_at t u ≡ o → (k : TreeLink) × (link_at t u ≡ Some k)
      by None h = absurd (let bad : joint_of q t large u e ≡ None = rw h refl in let no_joint : None ≡ Some l = sym bad ∙ joint in cc)
      by (Some k) h = (k, h)

  abbrev p : PatternEdge
  p = edge_at q link_of_joint.0.edge

  test : (bytes_eq p.label e.label && fits q p.tail large e.src && fits q p.head large e.dst) ≡ true
  test = some_if (bytes_eq p.label e.label && fits q p.tail large e.src && fits q p.head large e.dst) _ l (rw link_of_joint.1 at joint)

  no_loop : p.tail ≢ p.head
  no_loop same = by (p.head == u) refl
    where
      by : (b : Bool) → (p.head == u) ≡ b → ⊥
      by true down = let ends = ends_down q t belongs u link_of_joint.0 link_of_joint.1 down in apart q t belongs u link_of_joint.0 link_of_joint.1 (sym ends.1 ∙ sym same ∙ ends.0)
      by false up = let ends = ends_up q t belongs u link_of_joint.0 link_of_joint.1 up in apart q t belongs u link_of_joint.0 link_of_joint.1 (sym ends.0 ∙ same ∙ ends.1)

  fit : fits_edge q p large e ≡ true
  fit = and_from _ _ test (or_left (not (p.tail == p.head)) (e.src == e.dst) (ap not (ne_eqb p.tail p.head no_loop)))

  end : is_end q large e p.tail e.src ≡ true
  end =
      list_any_at (λ (f : PatternEdge). fits_edge q f large e && (f.tail == p.tail && e.src == e.src || f.head == p.tail && e.dst == e.src)) q.edges link_of_joint.0.edge (record { tail = 0; label = []; head = 0 })
      (belongs.links u link_of_joint.0 link_of_joint.1).edge
      (and_from _ _ fit (or_left (p.tail == p.tail && e.src == e.src) (p.head == p.tail && e.dst == e.src) (and_from _ _ (eq-eqb p.tail p.tail refl) (eq-eqb e.src e.src refl))))

-- where e is a joint of a tree edge, its source is touched
pub joint_touched : (q : PatternGraph) (t : QueryTree) (small large : Graph) (e : Triple) (u : ℕ) (l : Joint) → BelongsTo q t → IsPermutation large.triples (e ∷ small.triples) →
    joint_of q t large u e ≡ Some l → 2 ≤ sum_by (λ (p : ℕ × ℕ). 1 + degree large p.1) (touched q t small large e)
joint_touched q t small large e u l belongs perm joint =
    let h : ℕ × ℕ → Bool = λ x. has_moved (joined q t small) (joined q t large) x.0 x.1 || is_end q large e x.0 x.1 in
    let a : ℕ = (p q t belongs large e u l joint).tail in
    let both = test q t belongs large e u l joint in
    let tail_fits = (and_parts _ _ (and_parts _ _ both).0).1 in
    let low = ltb-true a (vertex_count q) (and_parts _ _ tail_fits).0 in
    let sums = sum_pairs (λ x. has_moved (joined q t small) (joined q t large) x.0 x.1 || is_end q large e x.0 x.1) (λ v. 1 + degree large v) (ids large) (range_with_len 0 (vertex_count q)) in
    let inner = sum_has (λ v. cond (has_moved (joined q t small) (joined q t large) a v || is_end q large e a v) (1 + degree large v) 0) e.src (ids large) (any_id q a large e.src tail_fits) in
    let outer = sum_has (λ w. sum_by (λ v. cond (has_moved (joined q t small) (joined q t large) w v || is_end q large e w v) (1 + degree large v) 0) (ids large)) a (range_with_len 0 (vertex_count q)) (in_below a (vertex_count q) 0 (omega arith) (omega (arith, low))) in
    let here : cond (has_moved (joined q t small) (joined q t large) a e.src || is_end q large e a e.src) (1 + degree large e.src) 0 ≡ 1 + degree large e.src =
    ap (λ b. cond b (1 + degree large e.src) 0) (or_right (has_moved (joined q t small) (joined q t large) a e.src) (is_end q large e a e.src) (end q t belongs large e u l joint)) in
    omega (arith, sums, inner, outer, here, degree_some)
  where
    degree_some : 1 ≤ degree large e.src
    degree_some =
        let a = sum_by-IsPermutation (λ (x : Triple). bit (x.src == e.src)) large.triples (e ∷ small.triples) perm in
        let b = sum_by-cons (λ (x : Triple). bit (x.src == e.src)) e small.triples in
        let one : bit (e.src == e.src) ≡ 1 = ap bit (eq-eqb e.src e.src refl) in omega (arith, a, b, one)

-- where a joint costs three times the sum at most, all do
edges_bound : (up : Update) (sum n : ℕ) → ((u : ℕ) → u < n → u ≢ up.tree.root → (l : Joint) → joint_of up.pattern up.tree up.large u up.triple ≡ Some l → 2 ≤ sum) →
    (k : ℕ) → k ≤ n → edges_cost up k ≤ labels_cost up k + 3 * (k * sum)
edges_bound up sum n two zero le = omega arith
edges_bound up sum n two (suc k) le =
    let before = edges_bound up sum n two k (omega arith) in
    let one = edge (k == up.tree.root) refl (joint_of up.pattern up.tree up.large k up.triple) refl in
    let a = ap (edges_cost up) (add-one k) in
    let b = edges_more up k in
    let c = ap (labels_cost up) (add-one k) in
    let d = labels_more up k in
    join (edges_cost up (suc k)) (edges_cost up (k + 1)) (edges_cost up k) (edge_cost up k) (labels_cost up (suc k)) (labels_cost up (k + 1)) (labels_cost up k) (cond (k == up.tree.root) 0 (label_cost up k)) k sum before one a b c d
  where
    join : (e1 e2 e0 e l1 l2 l0 l k sum : ℕ) → e0 ≤ l0 + 3 * (k * sum) → e ≤ l + 3 * sum → e2 ≡ e1 → e2 ≡ e0 + e → l2 ≡ l1 → l2 ≡ l0 + l → e1 ≤ l1 + 3 * (suc k * sum)
    join e1 e2 e0 e l1 l2 l0 l k sum a b c d f g = omega arith

    value : (o : Option Joint) → is_some o ≡ true → (l : Joint) × (o ≡ Some l)
    value None h = absurd (let bad : false ≡ true = h in cc)
    value (Some l) h = (l, refl)

    linked : (c : ℕ) (o : Option Joint) → (is_some o ≡ true → 2 ≤ sum) → c + cond (is_some o) 6 0 ≤ c + 3 * sum
    linked c None h = omega arith
    linked c (Some l) h = let two = h refl in omega (arith, two)

    edge : (b : Bool) → (k == up.tree.root) ≡ b → (o : Option Joint) → joint_of up.pattern up.tree up.large k up.triple ≡ o → edge_cost up k ≤ cond (k == up.tree.root) 0 (label_cost up k) + 3 * sum
    edge true is o link =
        let a : edge_cost up k ≡ 0 = ap (λ b. cond b 0 (label_cost up k + cond (is_some (joint_of up.pattern up.tree up.large k up.triple)) 6 0)) is in omega (arith, a)
    edge false is o link =
        let a : edge_cost up k ≡ label_cost up k + cond (is_some o) 6 0 =
        ap (λ b. cond b 0 (label_cost up k + cond (is_some (joint_of up.pattern up.tree up.large k up.triple)) 6 0)) is ∙ ap (λ p. label_cost up k + cond (is_some p) 6 0) link in
        let b : cond (k == up.tree.root) 0 (label_cost up k) ≡ label_cost up k = ap (λ c. cond c 0 (label_cost up k)) is in
        let c = linked (label_cost up k) o (λ some. let l = value o some in two k (omega arith) (eqb-false k up.tree.root is) l.0 (link ∙ l.1)) in
        omega (arith, a, b, c)

-- the whole: what `insert_joints` and `delete_joints` may spend, in terms of the pairs that move
pub update_spent : (up : Update) (s0 s1 w w' : ℕ) → BelongsTo up.pattern up.tree → IsPermutation up.large.triples (up.triple ∷ up.small.triples) →
    s1 + w ≤ s0 + w' + edges_cost up (vertex_count up.pattern) →
    w' ≤ w + 12 * vertex_count up.pattern * sum_by (λ (p : ℕ × ℕ). 1 + degree up.large p.1) (touched up.pattern up.tree up.small up.large up.triple) →
    s1 ≤ s0 + move_cost up.pattern up.tree up.small up.large up.triple + labels_cost up (vertex_count up.pattern)
update_spent up s0 s1 w w' tree perm spent grown =
    let n = vertex_count up.pattern in
    let sum = sum_by (λ (p : ℕ × ℕ). 1 + degree up.large p.1) (touched up.pattern up.tree up.small up.large up.triple) in
    let edges = edges_bound up sum n (λ u lt ne l link. joint_touched up.pattern up.tree up.small up.large up.triple u l tree perm link) n (omega arith) in
    join s0 s1 w w' (edges_cost up n) (labels_cost up n) n sum spent grown edges
  where
    join : (s0 s1 w w' e l n sum : ℕ) → s1 + w ≤ s0 + w' + e → w' ≤ w + 12 * n * sum → e ≤ l + 3 * (n * sum) → s1 ≤ s0 + 16 * n * sum + l
    join s0 s1 w w' e l n sum h k m = omega arith
