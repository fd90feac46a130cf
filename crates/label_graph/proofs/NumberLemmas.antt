-- Labels that no triple has, and triples by the numbers of their labels.
use Rattle.std.proofs.Common.{◌≡◌, ℕ, Bool, true, false, Option, Some, None, List, [], ◌∷◌, map, refl, sym, ap, ◌∙◌, subst, inl, inr}
use Rattle.std.proofs.lemmas.Option.{none-some}
use Rattle.std.specs.Prelude.{MatchOption, IfNone, unwrap_or}
use Rattle.std.specs.List.{filter, list_any}
use Rattle.std.specs.Str.{bytes_eq}
use Rattle.std.specs.Cmp.Lexicographic.{bytes_decides}
use Rattle.flux_model.specs.Graph.{triple_cmp}
use Rattle.flux_model.specs.declared.graph.Vertex.{Vertex}
use Rattle.flux_model.specs.declared.graph.Triple.{Triple}
use Rattle.label_graph.specs.declared.link.Link.{Link}
use Rattle.label_graph.specs.declared.names.Name.{Name}
use Rattle.label_graph.specs.Names.{text_at, IsTable, IsUnknown}
use Rattle.graph_traits.specs.Numbers.{LacksLabel, has_triple_by}
use Rattle.label_graph.specs.Places.{link_eq}
use Rattle.flux_model.specs.Members.{In}
use Rattle.flux_model.proofs.MemberLemmas.{in_any, mapped_in}
use Rattle.label_graph.specs.Sorted.{sorted}
use Rattle.label_graph.specs.Store.{triple_of, kept_graph, IsNamed}
use Rattle.label_graph.proofs.PlaceLemmas.{link_same}
use Rattle.label_graph.proofs.SortedLemmas.{sorted_in}
use Rattle.label_graph.proofs.StoreLemmas.{triple_total, known_label, text_of_slot, has_triple_found}

none_pass : {X : Type 0} (p : X → Bool) (xs : List X) → ((x : X) → In xs x → p x ≡ false) → filter p xs ≡ []
none_pass p [] h = refl
none_pass p (x ∷ xs) h = rw (h x (inl refl)) (none_pass p xs (λ y i. h y (inr i)))

module _ (names : List (Option Name)) (vertices : List Vertex) (links : List Link) (n : IsNamed names vertices links) (text : List ℕ)
    (unknown : IsUnknown names text) where
  other_label : (t : Triple) → In (sorted triple_cmp (map (triple_of names) links)) t → (b : Bool) → bytes_eq text t.label ≡ b →
      bytes_eq text t.label ≡ false
  other_label t i true e =
      let m = mapped_in (triple_of names) links t (sorted_in triple_cmp triple_total (map (triple_of names) links) t i) in
      let w = known_label names vertices links n m.0 m.1 in
      let label : t.label ≡ unwrap_or (text_at names m.0.label) [] = ap (λ (z : Triple). z.label) m.2 in
      let same : t.label ≡ w.0.text = rw (text_of_slot names m.0.label w.0 w.1) at label in
      absurd (unknown m.0.label (text_of_slot names m.0.label w.0 w.1 ∙ ap Some (sym ((bytes_decides text t.label).0 e ∙ same))))
  other_label t i false e = e

  lacks : LacksLabel text (kept_graph names vertices links).triples
  lacks = none_pass (λ (t : Triple). bytes_eq text t.label) (sorted triple_cmp (map (triple_of names) links)) (λ t i. other_label t i (bytes_eq text t.label) refl)

-- what a look-up of the name answered
pub lacks_where_none : (names : List (Option Name)) (vertices : List Vertex) (links : List Link) → IsNamed names vertices links →
    (text : List ℕ) (found : Option ℕ) →
    MatchOption found (IsUnknown names text) (λ n. text_at names n ≡ Some text) → IfNone found (LacksLabel text (kept_graph names vertices links).triples)
lacks_where_none names vertices links n text None h = lacks names vertices links n text h
lacks_where_none names vertices links n text (Some k) h = tt

-- whether the link stands is whether its triple does
module _ (names : List (Option Name)) (vertices : List Vertex) (links : List Link) (n : IsNamed names vertices links) (k : Link) where
  none_stands : text_at names k.label ≡ None → (b : Bool) → list_any (link_eq k) links ≡ b → list_any (link_eq k) links ≡ false
  none_stands free true e =
      let l = in_any (link_eq k) links e in
      let w = known_label names vertices links n l.0 l.1 in
      let P : Link → Type 0 = λ z. text_at names z.label ≡ Some w.0.text in
      let named = subst P (sym (link_same k l.0 l.2)) (text_of_slot names l.0.label w.0 w.1) in
      absurd (none-some w.0.text (sym free ∙ named))
  none_stands free false e = e

  -- whether the link stands is whether its triple does
  pub stands_by : IsTable names → list_any (link_eq k) links
      ≡ has_triple_by (kept_graph names vertices links) (text_at names k.label) k.src k.dst
  stands_by tab = by (text_at names k.label) refl
    where
      by : (o : Option (List ℕ)) → text_at names k.label ≡ o →
          list_any (link_eq k) links ≡ has_triple_by (kept_graph names vertices links) o k.src k.dst
      by None e = none_stands e (list_any (link_eq k) links) refl
      by (Some text) e = sym (has_triple_found names vertices links n tab k text e)
