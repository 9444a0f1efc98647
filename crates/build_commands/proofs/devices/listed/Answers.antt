use Rattle.std.proofs.Common.{refl, sym, ◌∙◌}
use Rattle.std.proofs.Common.{inr, refl}
use Rattle.build_commands.specs.Lists.{said}
use Rattle.build_commands.proofs.devices.listed.Goals as goal

pub returns-in-None-clause-listed : goal.returns-in-None-clause-listed
returns-in-None-clause-listed c = λ o. record {
  said = said c.in_ok-listing.listing;
  of = record {
    files = c.in_ok-listing.listing.files.items;
    is = c.in_ok-listing.ensures.said;
    lines = refl;
    new = c.in_ok-listing.ensures.new;
    settings = refl;
    order = c.in_ok-sort.ensures.order;
    same = c.in_ok-sort.ensures.named;
  };
  fits = rw c.deref.ensures.value at (sym (c.in_ok-first_unfit.ensures o) ∙ c.in-None.is);
}

pub returns-in-Some-clause-refused : goal.returns-in-Some-clause-refused
returns-in-Some-clause-refused c = λ o. inr (record {
  said = said c.in_ok-listing.listing;
  listing = record { files = c.sort.new.found; changes = c.in_ok-listing.listing.changes };
  of = record {
    files = c.in_ok-listing.listing.files.items;
    is = c.in_ok-listing.ensures.said;
    lines = refl;
    new = c.in_ok-listing.ensures.new;
    settings = refl;
    order = c.in_ok-sort.ensures.order;
    same = c.in_ok-sort.ensures.named;
  };
  first = rw c.deref.ensures.value at (sym (c.in_ok-first_unfit.ensures o) ∙ c.in-Some.is);
})
