-- Draws, and what is left to be drawn.
use Rattle.std.proofs.Common.{◌≡◌, ℕ, suc, ◌+◌, ◌-◌, ◌*◌, ◌/◌, ◌%◌, ◌^◌, ◌<◌, List, [], ◌∷◌, ◌++◌, length, refl, sym, ap, ◌∙◌, arith, append_assoc, append-nil, length-append}
use Rattle.std.specs.List.{flat_map}
use Rattle.std.proofs.Math.Nat.{mod-add-mod}
use Rattle.flux_model.specs.GraphText.{vertex_line, triple_line}
use Rattle.flux_model.specs.declared.graph.Triple.{Triple}
use Rattle.std.proofs.lemmas.List.{map-append}
use Rattle.flux_model.specs.Generated.{next, pick, steps, vertex_of, vertices_from, triple_from, triples_from, after_triple, Turn, turn, updates_from, update_line}
use Rattle.flux_gen.specs.Law.{SevenIsDrawn}
use Rattle.flux_gen.specs.Drawn.{edge_triple, edge_triples, Took}
use Rattle.flux_gen.specs.declared.draws.Edge.{Edge}

pub state_next : (s : ℕ) → (s * 6364136223846793005 % 18446744073709551616 + 1442695040888963407) % 18446744073709551616 ≡ next s
unfolding next
state_next s = mod-add-mod (s * 6364136223846793005) 18446744073709551616 1442695040888963407

pub seven_drawn : SevenIsDrawn
unfolding pick next
seven_drawn = (refl, refl, refl)

-- one of those that are left is next
left_more : (n i : ℕ) → i < n → n - i ≡ suc (n - (i + 1))
left_more n i h = omega arith

-- a text that is written part by part
written : (old mid new first rest whole : List ℕ) → new ≡ mid ++ first → mid ++ (first ++ rest) ≡ old ++ whole → new ++ rest ≡ old ++ whole
written old mid new first rest whole now before = ap (λ t. t ++ rest) now ∙ append_assoc mid first rest ∙ before

-- ---- vertices

pub vertex_written : (n i x s t : ℕ) (old mid new whole : List ℕ) → i < n → x ≡ pick s 2 → t ≡ next s → new ≡ mid ++ vertex_line (vertex_of i x)
    → mid ++ flat_map vertex_line (vertices_from (n - i) i s) ≡ old ++ whole
    → new ++ flat_map vertex_line (vertices_from (n - (i + 1)) (i + 1) t) ≡ old ++ whole
vertex_written n i x s t old mid new whole h label e now before =
    let one : i + 1 ≡ suc i = omega arith in
    let left = left_more n i h in
    let first : List ℕ = vertex_line (vertex_of i (pick s 2)) in
    ap (λ k. new ++ flat_map vertex_line (vertices_from (n - (i + 1)) (i + 1) k)) e
    ∙ ap (λ j. new ++ flat_map vertex_line (vertices_from (n - (i + 1)) j (next s))) one
    ∙ written old mid new first (flat_map vertex_line (vertices_from (n - (i + 1)) (suc i) (next s))) whole (now ∙ ap (λ k. mid ++ vertex_line (vertex_of i k)) label)
    (sym (ap (λ k. mid ++ flat_map vertex_line (vertices_from k i s)) left) ∙ before)

pub step_taken : (step : ℕ → ℕ) (n i s t last : ℕ) → i < n → t ≡ step s → steps step (n - i) s ≡ last → steps step (n - (i + 1)) t ≡ last
step_taken step n i s t last h e before =
    ap (steps step (n - (i + 1))) e ∙ sym (ap (λ k. steps step k s) (left_more n i h)) ∙ before

pub picked : (s k : ℕ) → (s * 6364136223846793005 % 18446744073709551616 + 1442695040888963407) % 18446744073709551616 / 2 ^ 32 * k / 2 ^ 32 ≡ pick s k
unfolding pick next
picked s k = ap (λ t. t / 2 ^ 32 * k / 2 ^ 32) (state_next s)

-- ---- triples

pub triple_written : (v n i s t : ℕ) (r : Triple) (old mid new whole : List ℕ) → i < n → r ≡ triple_from v s → t ≡ after_triple s → new ≡ mid ++ triple_line r
    → mid ++ flat_map triple_line (triples_from v (n - i) s) ≡ old ++ whole
    → new ++ flat_map triple_line (triples_from v (n - (i + 1)) t) ≡ old ++ whole
triple_written v n i s t r old mid new whole h same e now before =
    ap (λ k. new ++ flat_map triple_line (triples_from v (n - (i + 1)) k)) e
    ∙ written old mid new (triple_line (triple_from v s)) (flat_map triple_line (triples_from v (n - (i + 1)) (after_triple s))) whole
    (now ∙ ap (λ k. mid ++ triple_line k) same)
    (sym (ap (λ k. mid ++ flat_map triple_line (triples_from v k s)) (left_more n i h)) ∙ before)

pub triple_kept : (v n i s t : ℕ) (edge : Edge) (mid new : List Edge) (whole : List Triple) → i < n → edge_triple edge ≡ triple_from v s → t ≡ after_triple s → new ≡ mid ++ edge ∷ []
    → edge_triples mid ++ triples_from v (n - i) s ≡ whole → edge_triples new ++ triples_from v (n - (i + 1)) t ≡ whole
triple_kept v n i s t edge mid new whole h same e now before =
    let left : List Triple = triples_from v (n - (i + 1)) (after_triple s) in
    ap (λ k. edge_triples new ++ triples_from v (n - (i + 1)) k) e
    ∙ ap (λ l. edge_triples l ++ left) now
    ∙ ap (λ l. l ++ left) (map-append edge_triple mid (edge ∷ []))
    ∙ ap (λ r. (edge_triples mid ++ r ∷ []) ++ left) same
    ∙ append_assoc (edge_triples mid) (triple_from v s ∷ []) left
    ∙ sym (ap (λ k. edge_triples mid ++ triples_from v k s) (left_more n i h)) ∙ before

-- ---- updates

pub turn_written : (v n i s t : ℕ) (drawn more : List Edge) (old mid new whole : List ℕ) → i < n → Took (turn v (edge_triples drawn) s) mid new more t
    → mid ++ flat_map update_line (updates_from v (n - i) (edge_triples drawn) s) ≡ old ++ whole
    → new ++ flat_map update_line (updates_from v (n - (i + 1)) (edge_triples more) t) ≡ old ++ whole
turn_written v n i s t drawn more old mid new whole h took before =
    let this : Turn = turn v (edge_triples drawn) s in
    ap (λ k. new ++ flat_map update_line (updates_from v (n - (i + 1)) (edge_triples more) k)) took.next_state
    ∙ ap (λ l. new ++ flat_map update_line (updates_from v (n - (i + 1)) l this.state)) took.edges
    ∙ written old mid new (update_line this.update) (flat_map update_line (updates_from v (n - (i + 1)) this.drawn this.state)) whole took.text
    (sym (ap (λ k. mid ++ flat_map update_line (updates_from v k (edge_triples drawn) s)) (left_more n i h)) ∙ before)

pub updates_done : (v n i s : ℕ) (drawn : List Triple) (out whole : List ℕ) → n - i ≡ 0 → out ++ flat_map update_line (updates_from v (n - i) drawn s) ≡ whole → out ≡ whole
updates_done v n i s drawn out whole none e = sym (append-nil out) ∙ sym (ap (λ k. out ++ flat_map update_line (updates_from v k drawn s)) none) ∙ e

pub one_more : (mid new : List Edge) (edge : Edge) (n i : ℕ) → new ≡ mid ++ edge ∷ [] → length mid ≡ n + i → length new ≡ n + (i + 1)
one_more mid new edge n i e h = omega (arith, ap length e, length-append mid (edge ∷ []))
