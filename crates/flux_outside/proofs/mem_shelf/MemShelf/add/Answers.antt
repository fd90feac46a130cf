use Rattle.std.proofs.Common.{ap, ◌∙◌, Some}
use Rattle.flux_outside.specs.MemShelf.{bytes_of, place_from}
use Rattle.flux_outside.specs.Entries.{seen_entries}
use Rattle.flux_outside.proofs.EntriesLemmas.{IsPlace-same, IsPlace-name, bytes_of-set_entry, bytes_of-set_entry_other, bytes_of-push_entry, bytes_of-push_entry_other}
use Rattle.flux_outside.proofs.mem_shelf.MemShelf.add.Goals as goal

pub returns-in-Some-clause-set : goal.returns-in-Some-clause-set
returns-in-Some-clause-set c =
    let at = IsPlace-same _ _ _ _ c.deref.ensures.value c.in-Some.ensures.first in
    bytes_of-set_entry _ _ _ _ at (IsPlace-name _ _ _ _ at c.index_mut.ensures.value)
    ∙ ap Some (c.in_ok-bytes.ensures.items_if_clones_equal (λ _ _ same. same))

pub returns-in-Some-clause-others : goal.returns-in-Some-clause-others
returns-in-Some-clause-others c = λ other ne.
    let at = IsPlace-same _ _ _ _ c.deref.ensures.value c.in-Some.ensures.first in
    bytes_of-set_entry_other _ _ other _ _ at (IsPlace-name _ _ _ _ at c.index_mut.ensures.value) ne
    ∙ ap (λ shelf. bytes_of shelf.entries other) c.self.view_is

pub returns-clause-set : goal.returns-clause-set
returns-clause-set c =
    bytes_of-push_entry _ _ _ _ (c.in_default.ensures.first ∙ ap (λ l. place_from 0 (seen_entries l) c.args.name.now) c.deref.ensures.value)
    c.in_ok-push.ensures.items c.in_ok-name.ensures.ok
    ∙ ap Some (c.in_ok-bytes.ensures.items_if_clones_equal (λ _ _ same. same))

pub returns-clause-others : goal.returns-clause-others
returns-clause-others c = λ other ne.
    bytes_of-push_entry_other _ _ _ other _ c.in_ok-push.ensures.items c.in_ok-name.ensures.ok ne
    ∙ ap (λ shelf. bytes_of shelf.entries other) c.self.view_is
