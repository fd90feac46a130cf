-- Rows stay where the names and the entries do.
use Rattle.std.proofs.Common.{◌≡◌, ℕ, List, [], ◌∷◌, Option, map, refl, ap, ◌∙◌}
use Rattle.std.specs.Prelude.{drop, option_map, unwrap_or}
use Rattle.label_graph.specs.declared.link.Link.{Link}
use Rattle.label_graph.specs.declared.link.RowEntry.{RowEntry}
use Rattle.label_graph.specs.declared.names.Name.{Name}
use Rattle.label_graph.specs.Names.{slot}
use Rattle.label_graph.specs.Store.{triple_of, row_from}

module _ (names names' : List (Option Name)) (slots : (q : ℕ) → slot names' q ≡ slot names q) where
  same_triple : (k : Link) → triple_of names' k ≡ triple_of names k
  same_triple k = ap (λ (o : Option Name). record { src = k.src; label = unwrap_or (option_map (λ x. x.text) o) []; dst = k.dst }) (slots k.label)

  pub same_entries : (link : RowEntry → Link) (row : List RowEntry) →
      map (λ t. triple_of names' (link t)) row ≡ map (λ t. triple_of names (link t)) row
  same_entries link [] = refl
  same_entries link (t ∷ row) = rw (same_triple (link t), same_entries link row) refl

  -- a row means the same triples from each place on
  pub same_row : (link : RowEntry → Link) (row row' : List RowEntry) (at : ℕ) → row' ≡ row →
      row_from names' link row' at ≡ row_from names link row at
  same_row link row row' at e = ap (λ (r : List RowEntry). row_from names' link r at) e ∙ same_entries link (drop at row)
