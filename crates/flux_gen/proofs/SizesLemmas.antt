-- How long the files of a number are.
use Rattle.std.proofs.Common.{◌≡◌, ℕ, zero, suc, ◌+◌, ◌*◌, ◌/◌, ◌<◌, ◌≤◌, ◌^◌, List, [], ◌∷◌, ◌++◌, length, refl, subst, arith, length-append}
use Rattle.std.proofs.lemmas.Fmt.{length-decimal-le_wide}
use Rattle.std.specs.Prelude.{codes}
use Rattle.std.specs.Fmt.{decimal}
use Rattle.std.specs.List.{flat_map, AllByRecursion}
use Rattle.flux_model.specs.GraphText.{text_line, vertex_line, triple_line}
use Rattle.flux_model.specs.declared.graph.Triple.{Triple}
use Rattle.flux_model.specs.declared.graph.Update.{Update}
use Rattle.flux_model.specs.declared.graph.Update.TheVariants.{DropVertex}
use Rattle.flux_model.specs.Generated.{next, pick, steps, vertex_of, triple_of, vertices_from, after_triple, triples_from, Turn, turn, updates_from, update_line, generated}
use Rattle.flux_gen.specs.Law.{FilesAreSmall, FilesAreInputs}
use Rattle.flux_gen.proofs.LawLemmas.{pick_below}
use Rattle.flux_gen.proofs.TurnsLemmas.{Makes, all_drawn, all_updates}

-- a line of two, three and four words
length-two : (a b : List ℕ) → length (text_line (a ∷ b ∷ [])) ≡ length a + length b + 2
length-two a b = omega (arith, length-append (a ++ 32 ∷ b) (10 ∷ []), length-append a (32 ∷ b))

length-three : (a b c : List ℕ) → length (text_line (a ∷ b ∷ c ∷ [])) ≡ length a + length b + length c + 3
length-three a b c = omega (arith, length-append (a ++ 32 ∷ (b ++ 32 ∷ c)) (10 ∷ []), length-append a (32 ∷ (b ++ 32 ∷ c)), length-append b (32 ∷ c))

length-four : (a b c d : List ℕ) → length (text_line (a ∷ b ∷ c ∷ d ∷ [])) ≡ length a + length b + length c + length d + 4
length-four a b c d =
    omega (arith, length-append (a ++ 32 ∷ (b ++ 32 ∷ (c ++ 32 ∷ d))) (10 ∷ []), length-append a (32 ∷ (b ++ 32 ∷ (c ++ 32 ∷ d))), length-append b (32 ∷ (c ++ 32 ∷ d)), length-append c (32 ∷ d))

-- the numbers up to n have at most k digits
record HasDigits (k n : ℕ) : Type 0 where
  some : 1 ≤ k
  below : n < 10 ^ k
  wide : n < 10 ^ 64

length-digits : (k n i : ℕ) → HasDigits k n → i ≤ n → length (decimal i) ≤ k
length-digits k n i h le = length-decimal-le_wide k i (omega (arith, h.some)) (omega (arith, h.below)) (omega (arith, h.wide))

length-digit : (i : ℕ) → i < 10 → length (decimal i) ≤ 1
length-digit i h = length-decimal-le_wide 1 i (omega arith) (omega arith) (omega arith)

vertex_short : (k n id x : ℕ) → HasDigits k n → id ≤ n → x < 2 → length (vertex_line (vertex_of id x)) ≤ k + 6
vertex_short k n id x h le l =
    omega (arith, length-three (codes "v") (decimal id) (codes "L" ++ decimal x), length-digits k n id h le, length-digit x (omega arith))

abbrev IsShort : ℕ → Triple → Type 0
IsShort k t = length (triple_line t) ≤ 2 * k + 7

triple_short : (k n src dst y : ℕ) → HasDigits k n → src ≤ n → dst ≤ n → y < 4 → IsShort k (triple_of src dst y)
triple_short k n src dst y h a b l =
    omega (arith, length-four (codes "e") (decimal src) (decimal dst) (codes "r" ++ decimal y), length-digits k n src h a, length-digits k n dst h b, length-digit y (omega arith))

abbrev IsShortUpdate : ℕ → Update → Type 0
IsShortUpdate k u = length (update_line u) ≤ 2 * k + 8

dropped_short : (k n id : ℕ) → HasDigits k n → id ≤ n → IsShortUpdate k (DropVertex id)
dropped_short k n id h le = omega (arith, length-two (codes "-v") (decimal id), length-digits k n id h le)

makes_short : (k v : ℕ) → HasDigits k (v + v / 10) → 1 ≤ v → Makes v (IsShort k) (IsShortUpdate k)
makes_short k v h some = record {
  new = λ s.
      let src = pick_below s v some in
      let dst = pick_below (next s) v some in
      triple_short k (v + v / 10) (pick s v) (pick (next s) v) (pick (next (next s)) 4) h (omega arith) (omega arith) (pick_below (next (next s)) 4 (omega arith));
  none = triple_short k (v + v / 10) 0 0 0 h (omega arith) (omega arith) (omega arith);
  adds = λ t short. omega (arith, short);
  drops = λ t short. omega (arith, short);
  comes = λ id x low l. omega (arith, vertex_short k (v + v / 10) id x h low l);
  goes = λ id low. dropped_short k (v + v / 10) id h low;
}

-- ---- texts

vertices_short : (k n left id s : ℕ) → HasDigits k n → id + left ≤ n → length (flat_map vertex_line (vertices_from left id s)) ≤ left * (2 * k + 8)
vertices_short k n zero id s h le = omega arith
vertices_short k n (suc left) id s h le =
    let first = vertex_short k n id (pick s 2) h (omega arith) (pick_below s 2 (omega arith)) in
    let rest = vertices_short k n left (suc id) (next s) h (omega arith) in
    omega (arith, first, rest, length-append (vertex_line (vertex_of id (pick s 2))) (flat_map vertex_line (vertices_from left (suc id) (next s))))

triples_short : (k : ℕ) (ts : List Triple) → AllByRecursion (IsShort k) ts → length (flat_map triple_line ts) ≤ length ts * (2 * k + 8)
triples_short k [] all = omega arith
triples_short k (t ∷ ts) all =
    let first = all.0 in
    let rest = triples_short k ts all.1 in
    omega (arith, first, rest, length-append (triple_line t) (flat_map triple_line ts))

updates_short : (k : ℕ) (us : List Update) → AllByRecursion (IsShortUpdate k) us → length (flat_map update_line us) ≤ length us * (2 * k + 8)
updates_short k [] all = omega arith
updates_short k (u ∷ us) all =
    let first = all.0 in
    let rest = updates_short k us all.1 in
    omega (arith, first, rest, length-append (update_line u) (flat_map update_line us))

length-triples : (v m s : ℕ) → length (triples_from v m s) ≡ m
length-triples v zero s = refl
length-triples v (suc m) s = omega (arith, length-triples v m (after_triple s))

pub length-updates : (v u s : ℕ) (drawn : List Triple) → length (updates_from v u drawn s) ≡ u
length-updates v zero s drawn = refl
length-updates v (suc u) s drawn = let t : Turn = turn v drawn s in omega (arith, length-updates v u t.state t.drawn)

-- ---- all files

graph_short : (k n m l : ℕ) (a b : List ℕ) → l ≡ m → length a ≤ n * (2 * k + 8) → length b ≤ l * (2 * k + 8) → length (a ++ b) ≤ (n + m) * (2 * k + 8)
graph_short k n m l a b e p q =
    let r : length b ≤ m * (2 * k + 8) = subst (λ j. length b ≤ j * (2 * k + 8)) e q in
    omega (arith, length-append a b)

record AreShort (k number n m u : ℕ) : Type 0 where
  graph : length (generated number n m u).graph ≤ (n + m) * (2 * k + 8)
  patterns : length (generated number n m u).patterns ≡ 285
  updates : length (generated number n m u).updates ≤ u * (2 * k + 8)

files_short : (k number n m u : ℕ) → HasDigits k (n + n / 10) → 1 ≤ n → AreShort k number n m u
unfolding generated
files_short k number n m u h some =
    let edges : ℕ = steps next n number in
    let ts : List Triple = triples_from n m edges in
    let us : List Update = updates_from n u ts (steps after_triple m edges) in
    let makes = makes_short k n h some in
    let all = all_drawn (IsShort k) n m edges makes.new in
    let vs = vertices_short k (n + n / 10) n 0 number h (omega arith) in
    record {
      graph = graph_short k n m (length ts) (flat_map vertex_line (vertices_from n 0 number)) (flat_map triple_line ts) (length-triples n m edges) vs (triples_short k ts all);
      patterns = refl;
      updates = subst (λ j. length (flat_map update_line us) ≤ j * (2 * k + 8)) (length-updates n u (steps after_triple m edges) ts)
          (updates_short k us (all_updates n (IsShort k) (IsShortUpdate k) makes u (steps after_triple m edges) ts all));
    }

-- ---- the laws

pub files_are_small : FilesAreSmall
files_are_small number =
    let s = files_short 5 number 20000 60000 5000 (record { some = omega arith; below = omega arith; wide = omega arith }) (omega arith) in
    omega (arith, s.graph, s.patterns, s.updates)

pub files_are_inputs : FilesAreInputs
files_are_inputs number n m u sizes few =
    let s = files_short 7 number n m u (record { some = omega arith; below = omega (arith, sizes.vertices); wide = omega (arith, sizes.vertices) }) sizes.some in
    (omega (arith, s.graph, sizes.vertices, sizes.triples), omega (arith, s.patterns), omega (arith, s.updates))
