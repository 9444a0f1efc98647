-- The faults of one record, and its validity.
use Rattle.std.proofs.Common.{◌≡◌, ◌≢◌, ℕ, ◌+◌, ◌-◌, ◌<◌, ◌≤◌, List, length, ◌⊎◌, inl, inr, refl, arith}
use Rattle.std.proofs.lemmas.Bool.{cases_lt}
use Rattle.std.proofs.lemmas.Bool.Decides.{eqb_tells}
use Rattle.std.specs.Prelude.{IsTrue}
use Rattle.std.specs.List.{Contains}
use Rattle.rom_fields.specs.Words.{words_sum, part_of}
use Rattle.record_forest.specs.Faults.{IsLeast}
use Rattle.romfs_format.specs.Record.{name_of, end_of, size_of, type_of, has_data, IsSound, HeaderLies, NameEnds}
use Rattle.romfs_format.specs.Record.{IsWhole, HasRecordFault, outside, name_unended, end_outside, data_outside}
use Rattle.romfs_format.specs.Record.{bad_sum, empty_name, slash, link_size}

-- a fault that is the only one
module _ {b : List ℕ} {r p : ℕ} where
  pub alone_outside : (HeaderLies b r p → ⊥) → IsLeast (HasRecordFault b r p) 11
  alone_outside n = record {
    here = outside refl n;
    least = λ m h. elim h [
      | outside e x ↦ omega arith
      | name_unended e l x ↦ absurd (n l)
      | end_outside e l x y ↦ absurd (n l)
      | data_outside e w x y ↦ absurd (n w.0)
      | bad_sum e w x ↦ absurd (n w.0)
      | empty_name e w x ↦ absurd (n w.0)
      | slash e w x ↦ absurd (n w.0)
      | link_size e w x y ↦ absurd (n w.0)
    ];
  }

  pub alone_unended : HeaderLies b r p → (NameEnds b p → ⊥) → IsLeast (HasRecordFault b r p) 13
  alone_unended l n = record {
    here = name_unended refl l n;
    least = λ m h. elim h [
      | outside e x ↦ absurd (x l)
      | name_unended e k x ↦ omega arith
      | end_outside e k x y ↦ absurd (n x)
      | data_outside e w x y ↦ absurd (n w.1)
      | bad_sum e w x ↦ absurd (n w.1)
      | empty_name e w x ↦ absurd (n w.1)
      | slash e w x ↦ absurd (n w.1)
      | link_size e w x y ↦ absurd (n w.1)
    ];
  }

  pub alone_past : HeaderLies b r p → NameEnds b p → length b < end_of b p → IsLeast (HasRecordFault b r p) 11
  alone_past l n past = record {
    here = end_outside refl l n past;
    least = λ m h. elim h [
      | outside e x ↦ omega arith
      | name_unended e k x ↦ absurd (x n)
      | end_outside e k x y ↦ omega arith
      | data_outside e w x y ↦ omega arith
      | bad_sum e w x ↦ omega arith
      | empty_name e w x ↦ let z = w.2 in absurd (omega arith)
      | slash e w x ↦ let z = w.2 in absurd (omega arith)
      | link_size e w x y ↦ omega arith
    ];
  }

  -- of several faults the one of the least number
  pub least_data : IsWhole b r p → IsTrue (has_data (type_of b p)) → length b < end_of b p + size_of b p
      → IsLeast (HasRecordFault b r p) 11
  least_data w d past = record {
    here = data_outside refl w d past;
    least = λ m h. elim h [
      | outside e x ↦ omega arith
      | name_unended e k x ↦ omega arith
      | end_outside e k x y ↦ omega arith
      | data_outside e v x y ↦ omega arith
      | bad_sum e v x ↦ omega arith
      | empty_name e v x ↦ omega arith
      | slash e v x ↦ omega arith
      | link_size e v x y ↦ omega arith
    ];
  }

  -- the whole record whose data lie within has no fault of number 11
  module _ (w : IsWhole b r p) (contents : IsTrue (has_data (type_of b p)) → end_of b p + size_of b p ≤ length b) where
    pub least_sum : words_sum (part_of b p (end_of b p - p)) ≢ 0 → IsLeast (HasRecordFault b r p) 12
    least_sum s = record {
      here = bad_sum refl w s;
      least = λ m h. elim h [
        | outside e x ↦ absurd (x w.0)
        | name_unended e k x ↦ omega arith
        | end_outside e k x y ↦ let z = w.2 in absurd (omega arith)
        | data_outside e v x y ↦ let z = contents x in absurd (omega arith)
        | bad_sum e v x ↦ omega arith
        | empty_name e v x ↦ omega arith
        | slash e v x ↦ omega arith
        | link_size e v x y ↦ omega arith
      ];
    }

    module _ (sum : words_sum (part_of b p (end_of b p - p)) ≡ 0) where
      pub least_name : (length (name_of b p) ≡ 0) ⊎ Contains (name_of b p) 47 → IsLeast (HasRecordFault b r p) 13
      least_name n = record {
        here = elim n [ inl z ↦ empty_name refl w z | inr z ↦ slash refl w z ];
        least = λ m h. elim h [
          | outside e x ↦ absurd (x w.0)
          | name_unended e k x ↦ omega arith
          | end_outside e k x y ↦ let z = w.2 in absurd (omega arith)
          | data_outside e v x y ↦ let z = contents x in absurd (omega arith)
          | bad_sum e v x ↦ absurd (x sum)
          | empty_name e v x ↦ omega arith
          | slash e v x ↦ omega arith
          | link_size e v x y ↦ omega arith
        ];
      }

      module _ (named : 0 < length (name_of b p)) (no_slash : Contains (name_of b p) 47 → ⊥) where
        pub least_link : type_of b p ≡ 3 → (size_of b p ≡ 0) ⊎ (4095 < size_of b p) → IsLeast (HasRecordFault b r p) 15
        least_link t n = record {
          here = link_size refl w t n;
          least = λ m h. elim h [
            | outside e x ↦ absurd (x w.0)
            | name_unended e k x ↦ absurd (x w.1)
            | end_outside e k x y ↦ let z = w.2 in absurd (omega arith)
            | data_outside e v x y ↦ let z = contents x in absurd (omega arith)
            | bad_sum e v x ↦ absurd (x sum)
            | empty_name e v x ↦ absurd (omega arith)
            | slash e v x ↦ absurd (no_slash x)
            | link_size e v x y ↦ omega arith
          ];
        }

        pub sound_of : (type_of b p ≡ 3 → (1 ≤ size_of b p) × (size_of b p ≤ 4095)) → IsSound b r p
        sound_of l = record {
          from_root = w.0.0;
          header = w.0.1;
          name_ends = w.1.0;
          name_short = w.1.1;
          within = w.2;
          named = named;
          no_slash = no_slash;
          sum = sum;
          data_within = contents;
          link_size = l;
        }

  -- a record without a fault is valid
  pub faultless_sound : ((n : ℕ) → HasRecordFault b r p n → ⊥) → IsSound b r p
  faultless_sound h =
      let lies : HeaderLies b r p = (
        elim (cases_lt p r) [ inl i ↦ absurd (h 11 (outside refl (λ k. let z = k.0 in omega arith))) | inr i ↦ i ],
        elim (cases_lt (length b) (p + 32))
            [ inl i ↦ absurd (h 11 (outside refl (λ k. let z = k.1 in omega arith))) | inr i ↦ i ],
      ) in
      let ends : NameEnds b p = (
        elim (cases_lt (p + 16 + length (name_of b p)) (length b))
            [ inl i ↦ i | inr i ↦ absurd (h 13 (name_unended refl lies (λ k. let z = k.0 in omega arith))) ],
        elim (cases_lt (length (name_of b p)) 256)
            [ inl i ↦ i | inr i ↦ absurd (h 13 (name_unended refl lies (λ k. let z = k.1 in omega arith))) ],
      ) in
      let within : end_of b p ≤ length b =
      elim (cases_lt (length b) (end_of b p))
      [ inl i ↦ absurd (h 11 (end_outside refl lies ends i)) | inr i ↦ i ] in
      let w : IsWhole b r p = (lies, ends, within) in
      let contents : IsTrue (has_data (type_of b p)) → end_of b p + size_of b p ≤ length b =
      λ d. elim (cases_lt (length b) (end_of b p + size_of b p))
      [ inl i ↦ absurd (h 11 (data_outside refl w d i)) | inr i ↦ i ] in
      let sum : words_sum (part_of b p (end_of b p - p)) ≡ 0 =
      elim (eqb_tells (words_sum (part_of b p (end_of b p - p))) 0)
      [ inl i ↦ i.1 | inr i ↦ absurd (h 12 (bad_sum refl w i.1)) ] in
      let named : 0 < length (name_of b p) =
      elim (cases_lt 0 (length (name_of b p)))
      [ inl i ↦ i | inr i ↦ absurd (h 13 (empty_name refl w (omega arith))) ] in
      sound_of w contents sum named (λ z. h 13 (slash refl w z)) (λ t. (
        elim (cases_lt 0 (size_of b p)) [ inl i ↦ i | inr i ↦ absurd (h 15 (link_size refl w t (inl (omega arith)))) ],
        elim (cases_lt 4095 (size_of b p)) [ inl i ↦ absurd (h 15 (link_size refl w t (inr i))) | inr i ↦ i ],
      ))

  -- a valid record has no fault
  pub sound_faultless : IsSound b r p → (n : ℕ) → HasRecordFault b r p n → ⊥
  sound_faultless s n h =
      let lies : HeaderLies b r p = (s.from_root, s.header) in
      let ends : NameEnds b p = (s.name_ends, s.name_short) in
      let within = s.within in
      let named = s.named in
      elim h [
        | outside e x ↦ x lies
        | name_unended e k x ↦ x ends
        | end_outside e k x y ↦ omega arith
        | data_outside e w x y ↦ let z = s.data_within x in omega arith
        | bad_sum e w x ↦ x s.sum
        | empty_name e w x ↦ omega arith
        | slash e w x ↦ s.no_slash x
        | link_size e w x y ↦ let z = s.link_size x in elim y [ inl i ↦ omega arith | inr i ↦ omega arith ]
      ]
