-- The faults of a record, and its validity.
use Rattle.std.proofs.Common.{◌≡◌, ℕ, ◌+◌, ◌*◌, ◌<◌, Bool, true, false, List, length, ◌⊎◌, inl, inr, refl, sym, ◌∙◌}
use Rattle.std.proofs.Common.{arith}
use Rattle.std.proofs.lemmas.Bool.{cases_lt, true≢false}
use Rattle.record_forest.specs.declared.reference.Reference.{Reference}
use Rattle.rom_fields.specs.declared.fault.Fault.{Fault}
use Rattle.cramfs_format.specs.Order.{word}
use Rattle.cramfs_format.specs.declared.order.Order.{Order}
use Rattle.cramfs_format.specs.Inode.{type_of, size_of, offset_of, name_of, end_of, is_kind, has_data, has_kinds}
use Rattle.cramfs_format.specs.Inode.{is_direct, block_count, block_start, block_len, pointer_place, pointer_of}
use Rattle.cramfs_format.specs.Inode.{IsPlain, Lies, TableLies, HasLinkSize, HasBody, Fits, IsSound, HasBodyFault}
use Rattle.cramfs_format.specs.Inode.{other_kind, link_size, list_outside, table_outside, other_block, block_outside}
use Rattle.cramfs_format.specs.Inode.{HasEntryFault, past_end, bad_name, bad_body}
use Rattle.cramfs_format.specs.Refers.{LeadsToSound, LeadsToFault, root_list, of_entry}

-- a test passes if it cannot fail
pub passes : (v : Bool) → (v ≡ false → ⊥) → v ≡ true
passes true h = refl
passes false h = absurd (h refl)

-- bytes are there if they cannot be elsewhere
pub lies_there : (b : List ℕ) (start len : ℕ) → (Lies b start len → ⊥)
    → (0 < len) × ((start < 76) ⊎ (length b < start + len))
lies_there b start len h = elim (cases_lt 0 len) [
  | inl l ↦ elim (cases_lt start 76) [
    | inl i ↦ (l, inl i)
    | inr i ↦ elim (cases_lt (length b) (start + len)) [ inl j ↦ (l, inr j) | inr j ↦ absurd (h (λ z. (i, j))) ]
  ]
  | inr l ↦ absurd (h (λ z. absurd (omega arith)))
]

pub no_other_place : (b : List ℕ) (start len : ℕ) → ((Lies b start len → ⊥) → ⊥) → Lies b start len
no_other_place b start len h z =
    elim (cases_lt start 76) [
      | inl i ↦ absurd (h (λ l. let w = (l z).0 in omega arith))
      | inr i ↦ elim (cases_lt (length b) (start + len))
          [ inl j ↦ absurd (h (λ l. let w = (l z).1 in omega arith)) | inr j ↦ (i, j) ]
    ]

plain_by : (o : Order) (b : List ℕ) (pointer : ℕ) → ((IsPlain o b pointer → ⊥) → ⊥) → IsPlain o b pointer
plain_by o b pointer h = (
  passes (has_kinds (word o b 8)) (λ e. h (λ k. true≢false (sym k.0 ∙ e))),
  passes (is_direct pointer) (λ e. h (λ k. true≢false (sym k.1 ∙ e))),
)

link_by : (o : Order) (b : List ℕ) (p : ℕ) → (type_of o b p ≡ 10 → (size_of o b p ≡ 0) ⊎ (4095 < size_of o b p) → ⊥)
    → HasLinkSize o b p
link_by o b p h t = (
  elim (cases_lt 0 (size_of o b p)) [ inl i ↦ i | inr i ↦ absurd (h t (inl (omega arith))) ],
  elim (cases_lt 4095 (size_of o b p)) [ inl i ↦ absurd (h t (inr i)) | inr i ↦ i ],
)

fits_by : (o : Order) (b : List ℕ) (e p : ℕ) → ((Fits o b e p → ⊥) → ⊥) → Fits o b e p
fits_by o b e p h = (
  elim (cases_lt e (p + 12)) [ inl i ↦ absurd (h (λ k. let z = k.0 in omega arith)) | inr i ↦ i ],
  elim (cases_lt e (end_of o b p)) [ inl i ↦ absurd (h (λ k. let z = k.1 in omega arith)) | inr i ↦ i ],
)

module _ {o : Order} {b : List ℕ} {p : ℕ} where
  -- a well-formed inode has no fault
  pub body_faultless : HasBody o b p → (f : Fault) → HasBodyFault o b p f → ⊥
  body_faultless h f (other_kind e k) = true≢false (sym h.kind ∙ k)
  body_faultless h f (link_size e t s) = let z = h.link_size t in elim s [ inl i ↦ omega arith | inr i ↦ omega arith ]
  body_faultless h f (list_outside e n) = n h.list
  body_faultless h f (table_outside e n) = n h.table
  body_faultless h f (other_block i e d t l n) = n (h.plain d i l)
  body_faultless h f (block_outside i e d t l k n) = n (h.blocks d i l)

  -- one without a fault is well formed
  pub faultless_body : ((f : Fault) → HasBodyFault o b p f → ⊥) → HasBody o b p
  faultless_body h =
      let eleven : Fault = record { number = 11; at = p } in
      let table : TableLies o b p = λ d. no_other_place b (offset_of o b p) (4 * block_count (size_of o b p))
      (λ n. h eleven (table_outside refl (λ l. n (l d)))) in
      let plain : has_data (type_of o b p) ≡ true → (i : ℕ) → i < block_count (size_of o b p)
      → IsPlain o b (pointer_of o b p i) =
      λ d i l. plain_by o b (pointer_of o b p i)
      (λ n. h (record { number = 16; at = pointer_place o b p i }) (other_block i refl d table l n)) in
      record {
        kind = passes (is_kind (type_of o b p)) (λ e. h (record { number = 14; at = p }) (other_kind refl e));
        link_size = link_by o b p (λ t s. h (record { number = 15; at = p }) (link_size refl t s));
        list = λ t. no_other_place b (offset_of o b p) (size_of o b p)
            (λ n. h eleven (list_outside refl (λ l. n (l t))));
        table = table;
        plain = plain;
        blocks = λ d i l. no_other_place b (block_start (pointer_of o b p i)) (block_len (size_of o b p) i)
            (λ n. h (record { number = 11; at = pointer_place o b p i })
            (block_outside i refl d table l (plain d i l) n));
      }

  module _ {e : ℕ} where
    pub sound_faultless : IsSound o b e p → (f : Fault) → HasEntryFault o b e p f → ⊥
    sound_faultless s f (past_end i n) = n s.fits
    sound_faultless s f (bad_name i k n) = n s.name
    sound_faultless s f (bad_body k h) = body_faultless s.body f h

    pub faultless_sound : ((f : Fault) → HasEntryFault o b e p f → ⊥) → IsSound o b e p
    faultless_sound h =
        let fits = fits_by o b e p (λ n. h (record { number = 17; at = p }) (past_end refl n)) in
        let thirteen : Fault = record { number = 13; at = p } in
        record {
          fits = fits;
          name = record {
            some = elim (cases_lt 0 (length (name_of o b p)))
                [ inl i ↦ i | inr i ↦ absurd (h thirteen (bad_name refl fits (λ k. let z = k.some in omega arith))) ];
            no_zero = λ z. h thirteen (bad_name refl fits (λ k. k.no_zero z));
            no_slash = λ z. h thirteen (bad_name refl fits (λ k. k.no_slash z));
          };
          body = faultless_body (λ f k. h f (bad_body fits k));
        }

-- the same of the record that a reference leads to
module _ {o : Order} {b : List ℕ} {x : Reference} where
  pub led_faultless : LeadsToSound o b x → (f : Fault) → LeadsToFault o b x f → ⊥
  led_faultless s f (root_list z e n) = n (s.root z)
  led_faultless s f (of_entry n h) = sound_faultless (s.entry n) f h

  pub faultless_led : ((f : Fault) → LeadsToFault o b x f → ⊥) → LeadsToSound o b x
  faultless_led h = record {
    root = λ z t. no_other_place b (offset_of o b x.which) (size_of o b x.which)
        (λ n. h (record { number = 11; at = x.which }) (root_list z refl (λ l. n (l t))));
    entry = λ n. faultless_sound (λ f k. h f (of_entry n k));
  }
