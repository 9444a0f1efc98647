-- Facts on what goes by the number of a kind.
use Rattle.std.proofs.Common.{◌≡◌, ◌≢◌, ℕ, true, false, List, [], inl, inr, refl, sym, subst, ◌∙◌}
use Rattle.std.proofs.lemmas.Bool.{ne_eqb, eq-eqb, false≢true}
use Rattle.std.proofs.lemmas.Bool.Decides.{eqb_tells}
use Rattle.rom_tree.specs.Tree.{Node, directory, regular, symlink, block, character, socket, fifo, Entries, IsIn}
use Rattle.rom_tree.specs.Tree.{body_nodes, entries_nodes, body_kind, body_places, is_directory_body, is_link_body}
use Rattle.rom_tree.specs.Tree.{is_device_body}
use Rattle.rom_tree.specs.Kinds.{KindNumbers, by_kind, kind_by, body_by, device_by}

-- a function of what goes by the kind
pub by_kind_map : {A B : Type 0} (f : A → B) (k : KindNumbers) (t : ℕ) (a1 a2 a3 a4 a5 a6 a7 : A)
    → f (by_kind k t a1 a2 a3 a4 a5 a6 a7) ≡ by_kind k t (f a1) (f a2) (f a3) (f a4) (f a5) (f a6) (f a7)
by_kind_map f k t a1 a2 a3 a4 a5 a6 a7 =
    elim (eqb_tells t k.of_directory) [
      | inl h ↦ rw (h.0) refl
      | inr h ↦
          elim (eqb_tells t k.of_regular) [
            | inl i ↦ rw (h.0, i.0) refl
            | inr i ↦
                elim (eqb_tells t k.of_symlink) [
                  | inl j ↦ rw (h.0, i.0, j.0) refl
                  | inr j ↦
                      elim (eqb_tells t k.of_block) [
                        | inl l ↦ rw (h.0, i.0, j.0, l.0) refl
                        | inr l ↦
                            elim (eqb_tells t k.of_character) [
                              | inl m ↦ rw (h.0, i.0, j.0, l.0, m.0) refl
                              | inr m ↦
                                  elim (eqb_tells t k.of_socket) [
                                    | inl n ↦ rw (h.0, i.0, j.0, l.0, m.0, n.0) refl
                                    | inr n ↦ rw
                                        (h.0, i.0, j.0, l.0, m.0, n.0) refl
                                  ]
                            ]
                      ]
                ]
          ]
    ]

-- what a directory has, and that nothing else has it
pub by_kind_directory : {A : Type 0} (k : KindNumbers) (t : ℕ) (a1 a2 a3 a4 a5 a6 a7 : A) → t ≡ k.of_directory
    → by_kind k t a1 a2 a3 a4 a5 a6 a7 ≡ a1
by_kind_directory k t a1 a2 a3 a4 a5 a6 a7 h = rw (eq-eqb t k.of_directory h) refl

pub by_kind_other : {A : Type 0} (k : KindNumbers) (t : ℕ) (a a' a2 a3 a4 a5 a6 a7 : A) → t ≢ k.of_directory
    → by_kind k t a a2 a3 a4 a5 a6 a7 ≡ by_kind k t a' a2 a3 a4 a5 a6 a7
by_kind_other k t a a' a2 a3 a4 a5 a6 a7 h = rw (ne_eqb t k.of_directory h) refl

-- one thing for all kinds
by_kind_same : {A : Type 0} (k : KindNumbers) (t : ℕ) (c : A) → by_kind k t c c c c c c c ≡ c
by_kind_same k t c = sym (by_kind_map (λ (x : ℕ). c) k t 0 0 0 0 0 0 0)

pub by_kind_rest : {A : Type 0} (k : KindNumbers) (t : ℕ) (a c : A) → t ≢ k.of_directory → by_kind k t a c c c c c c ≡ c
by_kind_rest k t a c h = by_kind_other k t a c c c c c c c h ∙ by_kind_same k t c

pub body_kind_is : (k : KindNumbers) (t : ℕ) (ps : List ℕ) (es : Entries) → body_kind (body_by k t ps es) ≡ kind_by k t
body_kind_is k t ps es = by_kind_map body_kind k t (directory es) (regular ps) (symlink ps) block character socket fifo

pub body_directory_is : (k : KindNumbers) (t : ℕ) (ps : List ℕ) (es : Entries)
    → is_directory_body (body_by k t ps es) ≡ by_kind k t true false false false false false false
body_directory_is k t ps es =
    by_kind_map is_directory_body k t (directory es) (regular ps) (symlink ps) block character socket fifo

pub body_places_is : (k : KindNumbers) (t : ℕ) (ps : List ℕ) (es : Entries)
    → body_places (body_by k t ps es) ≡ by_kind k t [] ps ps [] [] [] []
body_places_is k t ps es =
    by_kind_map body_places k t (directory es) (regular ps) (symlink ps) block character socket fifo

pub only_directory : (k : KindNumbers) (t : ℕ) → by_kind k t true false false false false false false ≡ true
    → t ≡ k.of_directory
only_directory k t e = elim (eqb_tells t k.of_directory)
    [ inl h ↦ h.1 | inr h ↦ absurd (false≢true (sym (by_kind_rest k t true false h.1) ∙ e)) ]

-- only a symbolic link's body is one of a link
only_link_by : (k : KindNumbers) (t : ℕ) → by_kind k t false false true false false false false ≡ true
    → t ≡ k.of_symlink
only_link_by k t e =
    elim (eqb_tells t k.of_symlink) [
      | inl h ↦ h.1
      | inr h ↦
          elim (eqb_tells t k.of_directory) [
            | inl i ↦ absurd (false≢true (rw i.0 at e))
            | inr i ↦
                elim (eqb_tells t k.of_regular) [
                  | inl j ↦ absurd (false≢true (rw (i.0, j.0) at e))
                  | inr j ↦
                      elim (eqb_tells t k.of_block) [
                        | inl l ↦ absurd (false≢true (rw (i.0, j.0, h.0, l.0) at e))
                        | inr l ↦
                            elim (eqb_tells t k.of_character) [
                              | inl m ↦ absurd (false≢true (rw (i.0, j.0, h.0, l.0, m.0) at e))
                              | inr m ↦
                                  elim (eqb_tells t k.of_socket) [
                                    | inl n ↦ absurd (false≢true (rw (i.0, j.0, h.0, l.0, m.0, n.0) at e))
                                    | inr n ↦ absurd (false≢true (rw (i.0, j.0, h.0, l.0, m.0, n.0) at e))
                                  ]
                            ]
                      ]
                ]
          ]
    ]

pub only_link : (k : KindNumbers) (t : ℕ) (ps : List ℕ) (es : Entries) → is_link_body (body_by k t ps es) ≡ true
    → t ≡ k.of_symlink
only_link k t ps es e = only_link_by k t
    (sym (by_kind_map is_link_body k t (directory es) (regular ps) (symlink ps) block character socket fifo) ∙ e)

nowhere : (x : Node) → IsIn x [] → ⊥
nowhere x h = elim h [ ]

-- the nodes below a node are those of its list
pub below_body : (k : KindNumbers) (t : ℕ) (ps : List ℕ) (es : Entries) (x : Node)
    → IsIn x (body_nodes (body_by k t ps es)) → (t ≡ k.of_directory) × IsIn x (entries_nodes es)
below_body k t ps es x h =
    let e : body_nodes (body_by k t ps es) ≡ by_kind k t (entries_nodes es) [] [] [] [] [] [] =
    by_kind_map body_nodes k t (directory es) (regular ps) (symlink ps) block character socket fifo in
    let l : IsIn x (by_kind k t (entries_nodes es) [] [] [] [] [] []) = subst (IsIn x) e h in
    elim (eqb_tells t k.of_directory) [
      | inl i ↦ (i.1, subst (IsIn x) (by_kind_directory k t (entries_nodes es) [] [] [] [] [] [] i.1) l)
      | inr i ↦ absurd (nowhere x (subst (IsIn x) (by_kind_rest k t (entries_nodes es) [] i.1) l))
    ]

-- what is no device has no numbers of one
pub device_zero : (k : KindNumbers) (t : ℕ) (ps : List ℕ) (es : Entries) (n : ℕ)
    → is_device_body (body_by k t ps es) ≡ false → device_by k t n ≡ 0
device_zero k t ps es n e = by_test
    (sym (by_kind_map is_device_body k t (directory es) (regular ps) (symlink ps) block character socket fifo) ∙ e)
  where
    by_test : by_kind k t false false false true true false false ≡ false → device_by k t n ≡ 0
    by_test d =
        elim (eqb_tells t k.of_directory) [
          | inl h ↦ rw (h.0) refl
          | inr h ↦
              elim (eqb_tells t k.of_regular) [
                | inl i ↦ rw (h.0, i.0) refl
                | inr i ↦
                    elim (eqb_tells t k.of_symlink) [
                      | inl j ↦ rw (h.0, i.0, j.0) refl
                      | inr j ↦
                          elim (eqb_tells t k.of_block) [
                            | inl l ↦ absurd (false≢true (sym (rw (h.0, i.0, j.0, l.0) at d)))
                            | inr l ↦
                                elim (eqb_tells t k.of_character) [
                                  | inl m ↦ absurd (false≢true (sym (rw (h.0, i.0, j.0, l.0, m.0) at d)))
                                  | inr m ↦
                                      elim (eqb_tells t k.of_socket) [
                                        | inl n' ↦ rw (h.0, i.0, j.0, l.0, m.0, n'.0) refl
                                        | inr n' ↦ rw
                                            (h.0, i.0, j.0, l.0, m.0, n'.0) refl
                                      ]
                                ]
                          ]
                    ]
              ]
        ]
