use Rattle.std.proofs.Common.{◌++◌, List, subst, sym}
use Rattle.rom_tree.proofs.Answered.{err_by}
use Rattle.build_commands.specs.Devices.{IsListed}
use Rattle.build_commands.specs.Laying.{IsListRefusal}
use Rattle.build_commands.specs.Overlay.{AreInOrder, AreLaid, IsRefused}
use Rattle.build_commands.specs.declared.inventory.NamedFile.{NamedFile}
use Rattle.build_commands.proofs.Layered.{list_missing, list_mixed}
use Rattle.build_commands.proofs.laying.lay_list.Goals as goal

pub returns-in_err-laid-clause-refused : goal.returns-in_err-laid-clause-refused
returns-in_err-laid-clause-refused c =
    let o : AreInOrder c.deref.result.now = subst AreInOrder (sym c.deref.ensures.value) c.requires in
    let p : AreInOrder c.deref-2.result.now = subst AreInOrder (sym c.deref-2.ensures.value) c.requires in
    let says : IsListed c.args.found.items c.args.text.now c.in_ok-listing.listing =
    rw c.deref.ensures.value at (c.in_ok-listing.ensures.listed o)
    in
    err_by c.from_residual-in_err-laid.result c.from_residual-in_err-laid.ensures.1
    (λ e is. subst (IsListRefusal c.args.found.items c.args.text.now) (sym is)
    (list_mixed c.args.found.items c.args.text.now c.in_ok-listing.listing c.in_err-laid.field-0.0 says
    (subst (λ (fs : List NamedFile). IsRefused (c.args.found.items ++ fs) c.in_err-laid.field-0.0)
    (rw c.deref-2.ensures.value at (c.in_ok-files.ensures.made p)) c.in_err-laid.ensures.mixed)))

pub returns-in_err-set-clause-refused : goal.returns-in_err-set-clause-refused
returns-in_err-set-clause-refused c =
    let o : AreInOrder c.deref.result.now = subst AreInOrder (sym c.deref.ensures.value) c.requires in
    let p : AreInOrder c.deref-2.result.now = subst AreInOrder (sym c.deref-2.ensures.value) c.requires in
    let says : IsListed c.args.found.items c.args.text.now c.in_ok-listing.listing =
    rw c.deref.ensures.value at (c.in_ok-listing.ensures.listed o)
    in
    err_by c.from_residual-in_err-set.result c.from_residual-in_err-set.ensures.1
    (λ e is. subst (IsListRefusal c.args.found.items c.args.text.now) (sym is)
    (list_missing c.args.found.items c.args.text.now c.in_ok-listing.listing c.sort_changes.new.changes.items
    c.in_ok-laid.laid.items c.in_err-set.field-0.0 says
    (record {
      unsorted = c.in_ok-files.field-0.changes.items;
      are = rw c.deref-2.ensures.value at (c.in_ok-files.ensures.settings p);
      order = c.in_ok-sort_changes.ensures.order;
      stable = c.in_ok-sort_changes.ensures.stable;
    })
    (subst (λ (fs : List NamedFile). AreLaid (c.args.found.items ++ fs) c.in_ok-laid.laid.items)
    (rw c.deref-2.ensures.value at (c.in_ok-files.ensures.made p)) c.in_ok-laid.ensures.laid)
    (rw c.deref-3.ensures.value at c.in_err-set.ensures.refused)))

pub returns-clause-laid : goal.returns-clause-laid
returns-clause-laid c =
    let o : AreInOrder c.deref.result.now = subst AreInOrder (sym c.deref.ensures.value) c.requires in
    let p : AreInOrder c.deref-2.result.now = subst AreInOrder (sym c.deref-2.ensures.value) c.requires in
    record {
      listing = c.in_ok-listing.listing;
      says = rw c.deref.ensures.value at (c.in_ok-listing.ensures.listed o);
      changes = c.sort_changes.new.changes.items;
      by_line = record {
        unsorted = c.in_ok-files.field-0.changes.items;
        are = rw c.deref-2.ensures.value at (c.in_ok-files.ensures.settings p);
        order = c.in_ok-sort_changes.ensures.order;
        stable = c.in_ok-sort_changes.ensures.stable;
      };
      all = c.in_ok-laid.laid.items;
      over = subst (λ (fs : List NamedFile). AreLaid (c.args.found.items ++ fs) c.in_ok-laid.laid.items)
          (rw c.deref-2.ensures.value at (c.in_ok-files.ensures.made p)) c.in_ok-laid.ensures.laid;
      is = rw c.deref-3.ensures.value at c.in_ok-set.ensures.set;
    }
