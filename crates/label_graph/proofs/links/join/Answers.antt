use Rattle.std.proofs.Common.{◌≡◌, ℕ, None, Some, ap, ◌∙◌, List, [], ◌∷◌, ◌++◌, cond, length}
use Rattle.std.specs.Prelude.{option_map, slice_get}
use Rattle.std.specs.Map.{lookup, keys_of}
use Rattle.std.proofs.lemmas.List.Sorted.{IsPermutation-trans, IsPermutation-cons, IsPermutation-map}
use Rattle.std.proofs.lemmas.Option.{MatchOption-at_none}
use Rattle.std.proofs.lemmas.Result.{err_from_is_err_and}
use Rattle.label_graph.specs.declared.link.Link.{Link}
use Rattle.label_graph.specs.declared.link.RowEntry.{RowEntry}
use Rattle.label_graph.specs.declared.link.Places.{Places}
use Rattle.label_graph.specs.Places.{link_eq, outs, ins, out_link, in_link, out_place, in_place, ArePlaced}
use Rattle.label_graph.proofs.LinkLemmas.{same_placed, set_part}
use Rattle.label_graph.proofs.PlaceLemmas.{pushed_placed}
use Rattle.label_graph.proofs.links.join.Goals as goal

pub returns-in_err-reserve_out-clause-placed : goal.returns-in_err-reserve_out-clause-placed
returns-in_err-reserve_out-clause-placed c =
    same_placed c.args.nodes.now.entries c.reserve_out.new.nodes.entries c.args.places.now.entries c.reserve.new.self.entries
    c.reserve_out.ensures.outs c.reserve_out.ensures.ins c.reserve.ensures.entries.2 c.requires.placed

pub returns-in_err-reserve_in-clause-placed : goal.returns-in_err-reserve_in-clause-placed
returns-in_err-reserve_in-clause-placed c =
    same_placed c.args.nodes.now.entries c.reserve_in.new.nodes.entries c.args.places.now.entries c.reserve.new.self.entries
    (λ q. c.reserve_in.ensures.outs q ∙ c.reserve_out.ensures.outs q) (λ q. c.reserve_in.ensures.ins q ∙ c.reserve_out.ensures.ins q) c.reserve.ensures.entries.2 c.requires.placed

pub returns-in_err-reserve_out-clause-same : goal.returns-in_err-reserve_out-clause-same
returns-in_err-reserve_out-clause-same c =
    let p = err_from_is_err_and c.from_residual-in_err-reserve_out.result c.from_residual-in_err-reserve_out.ensures.1 in
    rw p.1 (IsPermutation-map (λ (e : Link × Places ℕ). e.0) c.args.places.now.entries c.reserve.new.self.entries c.reserve.ensures.entries.0)

pub returns-in_err-reserve_in-clause-same : goal.returns-in_err-reserve_in-clause-same
returns-in_err-reserve_in-clause-same c =
    let p = err_from_is_err_and c.from_residual-in_err-reserve_in.result c.from_residual-in_err-reserve_in.ensures.1 in
    rw p.1 (IsPermutation-map (λ (e : Link × Places ℕ). e.0) c.args.places.now.entries c.reserve.new.self.entries c.reserve.ensures.entries.0)

pub reserve_in-requires : goal.reserve_in-requires
reserve_in-requires c = ap (λ ks. slice_get ks c.args.dst) c.reserve_out.ensures.keys ∙ c.requires.dst

pub push_out-out_at-requires-clause-at : goal.push_out-out_at-requires-clause-at
push_out-out_at-requires-clause-at c = ap (λ ks. slice_get ks c.args.src) (c.reserve_in.ensures.keys ∙ c.reserve_out.ensures.keys) ∙ c.requires.src

pub push_in-in_at-requires-clause-at : goal.push_in-in_at-requires-clause-at
push_in-in_at-requires-clause-at c = ap (λ ks. slice_get ks c.args.dst) (c.push_out-out_at.ensures.keys ∙ (c.reserve_in.ensures.keys ∙ c.reserve_out.ensures.keys)) ∙ c.requires.dst

pub returns-clause-joined : goal.returns-clause-joined
returns-clause-joined c =
    let new : Places ℕ = record { out_at = c.push_out-out_at.result; in_at = c.push_in-in_at.result } in
    IsPermutation-trans (c.args.k ∷ keys_of c.args.places.now.entries) (c.args.k ∷ keys_of c.reserve.new.self.entries) (keys_of c.insert.new.self.entries)
    (IsPermutation-cons c.args.k (keys_of c.args.places.now.entries) (keys_of c.reserve.new.self.entries)
    (IsPermutation-map (λ (e : Link × Places ℕ). e.0) c.args.places.now.entries c.reserve.new.self.entries c.reserve.ensures.entries.0))
    (IsPermutation-map (λ (e : Link × Places ℕ). e.0) ((c.args.k, new) ∷ c.reserve.new.self.entries) c.insert.new.self.entries
    (MatchOption-at_none _ _ (c.in-Ok.ensures.old ∙ (c.reserve.ensures.entries.2 c.args.k ∙ c.requires.absent)) c.in-Ok.ensures.entries))

pub returns-clause-placed : goal.returns-clause-placed
returns-clause-placed c =
    let nodes = c.reserve_in.new.nodes.entries in
    let places = c.reserve.new.self.entries in
    let new : Places ℕ = record { out_at = c.push_out-out_at.result; in_at = c.push_in-in_at.result } in
    let h : ArePlaced c.reserve_in.new.nodes.entries c.reserve.new.self.entries = same_placed c.args.nodes.now.entries c.reserve_in.new.nodes.entries c.args.places.now.entries c.reserve.new.self.entries
    (λ q. c.reserve_in.ensures.outs q ∙ c.reserve_out.ensures.outs q) (λ q. c.reserve_in.ensures.ins q ∙ c.reserve_out.ensures.ins q) c.reserve.ensures.entries.2 c.requires.placed in
    let free : lookup (link_eq c.args.k) c.reserve.new.self.entries ≡ None = c.reserve.ensures.entries.2 c.args.k ∙ c.requires.absent in
    let out_entry : RowEntry = record { label = c.args.k.label; other = c.args.k.dst } in
    let in_entry : RowEntry = record { label = c.args.k.label; other = c.args.k.src } in
    let set = c.in-Ok.ensures.updates.0 in
    record {
      outs = pushed_placed out_link (outs c.reserve_in.new.nodes.entries) (outs c.push_in-in_at.new.nodes.entries) c.args.k.src out_entry
          (c.push_in-in_at.ensures.outs c.args.k.src ∙ c.push_out-out_at.ensures.row)
          (λ q n. c.push_in-in_at.ensures.outs q ∙ c.push_out-out_at.ensures.others q n)
          (out_place c.reserve.new.self.entries) (out_place c.insert.new.self.entries) h.outs
          (ap (option_map (λ (p : Places ℕ). (c.args.k.src, p.out_at))) free)
          (λ q. set_part (λ q p. (q.src, p.out_at)) c.reserve.new.self.entries c.insert.new.self.entries c.args.k new c.in-Ok.ensures.updates.0 q
          ∙ ap (λ (n : ℕ). cond (link_eq c.args.k q) (Some (c.args.k.src, n)) (out_place c.reserve.new.self.entries q)) c.push_out-out_at.ensures.place);
      ins = pushed_placed in_link (ins c.reserve_in.new.nodes.entries) (ins c.push_in-in_at.new.nodes.entries) c.args.k.dst in_entry
          (c.push_in-in_at.ensures.row ∙ ap (λ (l : List RowEntry). l ++ in_entry ∷ []) (c.push_out-out_at.ensures.ins c.args.k.dst))
          (λ q n. c.push_in-in_at.ensures.others q n ∙ c.push_out-out_at.ensures.ins q)
          (in_place c.reserve.new.self.entries) (in_place c.insert.new.self.entries) h.ins
          (ap (option_map (λ (p : Places ℕ). (c.args.k.dst, p.in_at))) free)
          (λ q. set_part (λ q p. (q.dst, p.in_at)) c.reserve.new.self.entries c.insert.new.self.entries c.args.k new c.in-Ok.ensures.updates.0 q
          ∙ ap (λ (n : ℕ). cond (link_eq c.args.k q) (Some (c.args.k.dst, n)) (in_place c.reserve.new.self.entries q)) (c.push_in-in_at.ensures.place ∙ ap (λ (l : List RowEntry). length l) (c.push_out-out_at.ensures.ins c.args.k.dst)));
    }
