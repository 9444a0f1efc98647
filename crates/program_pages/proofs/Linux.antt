-- The counted pages are the mapped ones.
use Rattle.std.proofs.Common.{◌≡◌, ◌+◌, ℕ, zero, suc, Bool, false, List, refl, sym, ap, ◌∙◌}
use Rattle.cramfs_format.specs.declared.order.Order.{Order}
use Rattle.program_pages.specs.Physmem.{Flash, mapped_pages}
use Rattle.program_pages.specs.InPlace.{pages_in_place}
use Rattle.program_pages.specs.declared.mapping.Mapping.{Mapping}
use Rattle.elf_format.specs.Header.{program_at}
use Rattle.elf_format.specs.Loading.{loaded}
use Rattle.elf_format.specs.declared.header.Header.{Header}
use Rattle.elf_format.specs.declared.loading.Loading.{Loading}
use Rattle.elf_format.specs.declared.loading.Loading.TheVariants.{Nothing, Refused, Pages}
use Rattle.program_pages.specs.Counted.{is_linked, is_zeroed, kept, pages_sum, placed_of}
use Rattle.program_pages.specs.Mapped.{mapped_of, mapped_sum}

module _ (o : Order) (f : Flash) (p start size : ℕ)
    (law : (m : Mapping) → mapped_pages o f p m ≡ pages_in_place f start size m) where
  one_mapped : (z : Bool) (l : Loading) → placed_of f false start size z l ≡ mapped_of o f p z l
  one_mapped z Nothing = refl
  one_mapped z Refused = refl
  one_mapped z (Pages first count writable) =
      ap (kept z count) (sym (law (record { first = first; count = count; writable = writable })))

  pub all_mapped : (b : List ℕ) (h : Header) (n : ℕ)
      → (pages_sum f false start size b h n).in_place ≡ mapped_sum o f p size b h n
  all_mapped b h zero = refl
  all_mapped b h (suc n) =
      let z : Bool = is_zeroed (is_linked false b h) (program_at b h n) in
      ap (λ (k : ℕ). k + placed_of f false start size z (loaded size (program_at b h n))) (all_mapped b h n)
      ∙ ap (λ (k : ℕ). mapped_sum o f p size b h n + k) (one_mapped z (loaded size (program_at b h n)))
