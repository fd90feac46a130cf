-- A vertex without triples, and a triple whose label no pattern edge has, make no joint.
use Rattle.std.proofs.Common.{◌≡◌, ◌≢◌, ℕ, Bool, true, false, not, cond, ◌&&◌, ◌||◌, ◌==◌, nat_lt, List, [], ◌∷◌, Option, Some, None, refl, sym, ap, ◌∙◌}
use Rattle.std.specs.Prelude.{slice_index_or}
use Rattle.std.specs.List.{filter, filter_map, cons_option, list_any, list_all}
use Rattle.std.specs.Ordering.{is_eq}
use Rattle.std.specs.Str.{bytes_eq}
use Rattle.std.specs.declared.cmp.Ordering.{Ordering}
use Rattle.std.specs.declared.cmp.Ordering.TheVariants.{Less, Equal, Greater}
use Rattle.std.proofs.lemmas.Bool.{ne_eqb, eqb-true, eqb-false, not-false, both_ways, false_from_ne_true}
use Rattle.std.proofs.lemmas.Cmp.{tied_itself}
use Rattle.std.proofs.lemmas.List.Folds.{list_any_at}
use Rattle.flux_model.specs.Graph.{Graph, vertex_cmp, triple_cmp, has_vertex, with_vertex, without_vertex}
use Rattle.flux_model.specs.Labels.{is_within}
use Rattle.flux_model.specs.Ordered.{put}
use Rattle.flux_model.specs.Pattern.{PatternGraph, vertex_count, fits, fits_labels}
use Rattle.flux_model.specs.States.{Joint, joint_of}
use Rattle.flux_model.specs.Tree.{QueryTree, link_at, edge_at, BelongsTo}
use Rattle.flux_model.specs.declared.graph.Triple.{Triple}
use Rattle.flux_model.specs.declared.graph.Vertex.{Vertex}
use Rattle.flux_model.specs.declared.pattern.PatternEdge.{PatternEdge}
use Rattle.flux_model.specs.declared.tree.TreeLink.{TreeLink}
use Rattle.flux_laws.specs.JointsLaws.{has_edge_labelled, AddedVertexKeepsJoints, DroppedVertexKeepsJoints, AddedTripleKeepsJoined, DroppedTripleKeepsJoined}
use Rattle.flux_laws.proofs.AscendingLemmas.{in-put}
use Rattle.flux_laws.proofs.OneMoreLemmas.{in_ids}
use Rattle.flux_laws.proofs.SetsLemmas.{vertex_total, same_triple}
use Rattle.flux_laws.proofs.TestLemmas.{neither}

-- ---- a vertex more or fewer

any-put_off : {K : Type 0} (R : K → K → Ordering) (p : K → Bool) (x : K) (xs : List K) → p x ≡ false → list_any p (put R x xs) ≡ list_any p xs
any-put_off R p x [] off = rw off refl
any-put_off R p x (y ∷ ys) off = by (R x y) refl (any-put_off R p x ys off)
  where
    by : (r : Ordering) → R x y ≡ r → list_any p (put R x ys) ≡ list_any p ys → list_any p (put R x (y ∷ ys)) ≡ list_any p (y ∷ ys)
    by Less q rest = rw (q, off) refl
    by Equal q rest = rw q refl
    by Greater q rest = rw (q, rest) refl

any-filter_off : {K : Type 0} (p r : K → Bool) (xs : List K) → ((x : K) → r x ≡ false → p x ≡ false) → list_any p (filter r xs) ≡ list_any p xs
any-filter_off p r [] off = refl
any-filter_off p r (x ∷ xs) off = by (r x) refl (any-filter_off p r xs off)
  where
    by : (b : Bool) → r x ≡ b → list_any p (filter r xs) ≡ list_any p xs → list_any p (filter r (x ∷ xs)) ≡ list_any p (x ∷ xs)
    by true e rest = rw (e, rest) refl
    by false e rest = rw (e, off x e) rest

none-filter : {K : Type 0} (p : K → Bool) (xs : List K) → list_any p (filter (λ x. not (p x)) xs) ≡ false
none-filter p [] = refl
none-filter p (x ∷ xs) = by (p x) refl (none-filter p xs)
  where
    by : (b : Bool) → p x ≡ b → list_any p (filter (λ y. not (p y)) xs) ≡ false → list_any p (filter (λ y. not (p y)) (x ∷ xs)) ≡ false
    by true e rest = rw e rest
    by false e rest = rw (e, e) rest

-- a vertex that was added is there
pub added_stands : (g : Graph) (v : Vertex) → has_vertex (with_vertex g v) v.id ≡ true
added_stands g v = sym (in_ids v (put vertex_cmp v g.vertices)) ∙ in-put vertex_cmp vertex_total v v g.vertices (tied_itself vertex_total v)

-- a vertex that was dropped is not
pub dropped_gone : (g : Graph) (id : ℕ) → has_vertex (without_vertex g id) id ≡ false
dropped_gone g id = none-filter (λ (w : Vertex). w.id == id) g.vertices

-- a vertex more leaves it as it was whether the others fit
pub added_fits_others : (g : Graph) (v : Vertex) (labels : List (List ℕ)) (k : ℕ) → k ≢ v.id → fits_labels (with_vertex g v) labels k ≡ fits_labels g labels k
added_fits_others g v labels k other =
    any-put_off vertex_cmp (λ (w : Vertex). w.id == k && is_within labels w.labels) v g.vertices (ap (λ b. b && is_within labels v.labels) (ne_eqb v.id k (λ same. other (sym same))))

-- and so a vertex fewer
pub dropped_fits_others : (g : Graph) (id : ℕ) (labels : List (List ℕ)) (k : ℕ) → k ≢ id → fits_labels (without_vertex g id) labels k ≡ fits_labels g labels k
dropped_fits_others g id labels k other =
    any-filter_off (λ (w : Vertex). w.id == k && is_within labels w.labels) (λ w. not (w.id == id)) g.vertices (λ w off.
    ap (λ b. b && is_within labels w.labels) (ne_eqb w.id k (λ same. other (sym same ∙ eqb-true w.id id (not-false (w.id == id) off)))))

-- ---- two graphs in which all vertices but one fit alike

module _ (q : PatternGraph) (t : QueryTree) (old new : Graph) (id : ℕ) (alike : (labels : List (List ℕ)) (v : ℕ) → v ≢ id → fits_labels new labels v ≡ fits_labels old labels v) where
  -- neither end of the joint is the vertex
  abbrev pub is_away : Joint → Bool
  is_away e = not (e.above == id) && not (e.below == id)

  abbrev none_or_away : Option Joint → Bool
  none_or_away None = true
  none_or_away (Some e) = is_away e

  fits_alike : (u v : ℕ) → v ≢ id → fits q u new v ≡ fits q u old v
  fits_alike u v other = ap (λ b. nat_lt u (vertex_count q) && b) (alike (slice_index_or q.labels u []) v other)

  joint_alike : (u : ℕ) (s : Triple) → s.src ≢ id → s.dst ≢ id → joint_of q t new u s ≡ joint_of q t old u s
  joint_alike u s src dst = by (link_at t u) refl
    where
      by : (o : Option TreeLink) → link_at t u ≡ o → joint_of q t new u s ≡ joint_of q t old u s
      by None e = rw e refl
      by (Some l) e =
          rw e (λ i. cond (bytes_eq (edge_at q l.edge).label s.label && fits_alike (edge_at q l.edge).tail s.src src i && fits_alike (edge_at q l.edge).head s.dst dst i)
          (Some (cond ((edge_at q l.edge).head == u) (record { above = s.src; below = s.dst }) (record { above = s.dst; below = s.src }))) None)

  away_two : (x y : ℕ) → x ≢ id → y ≢ id → (not (x == id) && not (y == id)) ≡ true
  away_two x y a b = (λ i. not (ne_eqb x id a i) && not (ne_eqb y id b i))

  joint_away : (u : ℕ) (s : Triple) → s.src ≢ id → s.dst ≢ id → none_or_away (joint_of q t old u s) ≡ true
  joint_away u s src dst = by (link_at t u) refl
    where
      made : (b c : Bool) → none_or_away (cond b (Some (cond c (record { above = s.src; below = s.dst }) (record { above = s.dst; below = s.src }))) None) ≡ true
      made false c = refl
      made true true = away_two s.src s.dst src dst
      made true false = away_two s.dst s.src dst src

      by : (o : Option TreeLink) → link_at t u ≡ o → none_or_away (joint_of q t old u s) ≡ true
      by None e = rw e refl
      by (Some l) e = rw e (made (bytes_eq (edge_at q l.edge).label s.label && fits q (edge_at q l.edge).tail old s.src && fits q (edge_at q l.edge).head old s.dst) ((edge_at q l.edge).head == u))

  all_cons : (o : Option Joint) (es : List Joint) → none_or_away o ≡ true → list_all is_away es ≡ true → list_all is_away (cons_option o es) ≡ true
  all_cons None es h rest = rest
  all_cons (Some e) es h rest = rw (h, rest) refl

  -- of triples that do not end at that vertex
  pub joints_alike : (u : ℕ) (ts : List Triple) → list_any (λ (s : Triple). s.src == id || s.dst == id) ts ≡ false → filter_map (joint_of q t new u) ts ≡ filter_map (joint_of q t old u) ts
  joints_alike u [] free = refl
  joints_alike u (s ∷ ts) free =
      let two = neither (s.src == id || s.dst == id) (list_any (λ (x : Triple). x.src == id || x.dst == id) ts) free in
      let ends = neither (s.src == id) (s.dst == id) two.0 in
      let rest = joints_alike u ts two.1 in
      (λ i. cons_option (joint_alike u s (eqb-false s.src id ends.0) (eqb-false s.dst id ends.1) i) (rest i))

  -- their joints do not end there either
  pub joints_away : (u : ℕ) (ts : List Triple) → list_any (λ (s : Triple). s.src == id || s.dst == id) ts ≡ false → list_all is_away (filter_map (joint_of q t old u) ts) ≡ true
  joints_away u [] free = refl
  joints_away u (s ∷ ts) free =
      let two = neither (s.src == id || s.dst == id) (list_any (λ (x : Triple). x.src == id || x.dst == id) ts) free in
      let ends = neither (s.src == id) (s.dst == id) two.0 in
      all_cons (joint_of q t old u s) (filter_map (joint_of q t old u) ts) (joint_away u s (eqb-false s.src id ends.0) (eqb-false s.dst id ends.1)) (joints_away u ts two.1)

-- a vertex more that no triple ends at
pub added_vertex_joints : AddedVertexKeepsJoints
added_vertex_joints q t g v free u = joints_alike q t g (with_vertex g v) v.id (added_fits_others g v) u g.triples free

-- a vertex fewer
pub dropped_vertex_joints : DroppedVertexKeepsJoints
dropped_vertex_joints q t g id free u = joints_alike q t g (without_vertex g id) id (dropped_fits_others g id) u g.triples free

-- ---- a triple whose label no edge has

-- it makes no joint
pub no_joint : (q : PatternGraph) (t : QueryTree) (triple : Triple) → BelongsTo q t → has_edge_labelled q triple.label ≡ false → (g : Graph) (u : ℕ) → joint_of q t g u triple ≡ None
no_joint q t triple belongs unnamed g u = by (link_at t u) refl
  where
    by : (o : Option TreeLink) → link_at t u ≡ o → joint_of q t g u triple ≡ None
    by None h = rw h refl
    by (Some l) h =
        let other : bytes_eq (edge_at q l.edge).label triple.label ≡ false = false_from_ne_true (bytes_eq (edge_at q l.edge).label triple.label) (λ same.
        both_ways (has_edge_labelled q triple.label) unnamed (list_any_at (λ (f : PatternEdge). bytes_eq f.label triple.label) q.edges l.edge (record { tail = 0; label = []; head = 0 }) (belongs.links u l h).edge same)) in
        rw (h, other) refl

put_none : (f : Triple → Option Joint) (triple : Triple) (ts : List Triple) → f triple ≡ None → filter_map f (put triple_cmp triple ts) ≡ filter_map f ts
put_none f triple [] none = rw none refl
put_none f triple (s ∷ ts) none = by (triple_cmp triple s) refl (put_none f triple ts none)
  where
    by : (r : Ordering) → triple_cmp triple s ≡ r → filter_map f (put triple_cmp triple ts) ≡ filter_map f ts → filter_map f (put triple_cmp triple (s ∷ ts)) ≡ filter_map f (s ∷ ts)
    by Less k rest = rw (k, none) refl
    by Equal k rest = rw k refl
    by Greater k rest = rw k (ap (cons_option (f s)) rest)

equal : (r : Ordering) → is_eq r ≡ true → r ≡ Equal
equal Less h = cc
equal Equal h = refl
equal Greater h = cc

filter_none : (f : Triple → Option Joint) (triple : Triple) (ts : List Triple) → f triple ≡ None → filter_map f (filter (λ s. not (is_eq (triple_cmp s triple))) ts) ≡ filter_map f ts
filter_none f triple [] none = refl
filter_none f triple (s ∷ ts) none = by (is_eq (triple_cmp s triple)) refl (filter_none f triple ts none)
  where
    by : (b : Bool) → is_eq (triple_cmp s triple) ≡ b → filter_map f (filter (λ r. not (is_eq (triple_cmp r triple))) ts) ≡ filter_map f ts
        → filter_map f (filter (λ r. not (is_eq (triple_cmp r triple))) (s ∷ ts)) ≡ filter_map f (s ∷ ts)
    by true e rest = let gone : f s ≡ None = ap f (same_triple s triple (equal (triple_cmp s triple) e)) ∙ none in rw (e, gone) rest
    by false e rest = rw e (ap (cons_option (f s)) rest)

-- a triple more
pub added_triple_joined : AddedTripleKeepsJoined
added_triple_joined q t g triple belongs unnamed = λ i. record {
  tree = t;
  fits = λ u v. fits q u g v;
  joints = λ u. put_none (joint_of q t g u) triple g.triples (no_joint q t triple belongs unnamed g u) i;
}

-- a triple fewer
pub dropped_triple_joined : DroppedTripleKeepsJoined
dropped_triple_joined q t g triple belongs unnamed = λ i. record {
  tree = t;
  fits = λ u v. fits q u g v;
  joints = λ u. filter_none (joint_of q t g u) triple g.triples (no_joint q t triple belongs unnamed g u) i;
}
