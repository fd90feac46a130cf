use Rattle.std.proofs.Common.{◌≡◌, ℕ, true, List, [], ◌++◌, ◌∙◌, ap, sym, subst, map-id}
use Rattle.std.specs.Ordering.{nat_cmp}
use Rattle.std.specs.Cmp.Lexicographic.{slice_cmp}
use Rattle.std.specs.List.{filter}
use Rattle.flux_model.specs.Ordered.{is_ascending}
use Rattle.flux_model.specs.Embedding.{is_embedding, embeddings}
use Rattle.plain_match.specs.Extensions.{extensions}
use Rattle.flux_laws.proofs.EmbeddingsLemmas.{embeddings-ascending}
use Rattle.plain_match.proofs.search.plain_all.Goals as goal

all : (c : goal.After-drop-prefix-2) → c.extend.new.found ≡ embeddings c.args.pattern.now c.args.graph.now.graph
all c =
    c.in_ok-extend.ensures.found
    ∙ ap (λ (l : List (List ℕ)). l ++ extensions c.args.pattern.now c.args.graph.now.graph c.new-prefix.result.items c.vertex_count-2.result) c.new-found.ensures
    ∙ ap (λ (l : List ℕ). extensions c.args.pattern.now c.args.graph.now.graph l c.vertex_count-2.result) c.new-prefix.ensures.items
    ∙ ap (extensions c.args.pattern.now c.args.graph.now.graph []) c.vertex_count-2.ensures.count
    ∙ ap (filter (is_embedding c.args.pattern.now c.args.graph.now.graph)) (map-id _)

pub returns-clause-all : goal.returns-clause-all
returns-clause-all c = all c

pub returns-clause-ascending : goal.returns-clause-ascending
returns-clause-ascending c =
    subst (λ l. is_ascending (slice_cmp nat_cmp) l ≡ true) (sym (all c)) (embeddings-ascending c.args.pattern.now c.args.graph.now.graph c.vertex_count.ensures.graph.ascending_vertices)
