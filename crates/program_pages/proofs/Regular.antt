-- Only an inode of a regular file makes one.
use Rattle.std.proofs.Common.{◌≡◌, ℕ, true, false, List, inl, inr, sym, ◌∙◌}
use Rattle.std.proofs.lemmas.Bool.{false≢true}
use Rattle.std.proofs.lemmas.Bool.Decides.{eqb_tells}
use Rattle.rom_tree.specs.Tree.{directory, regular, symlink, block, character, socket, fifo, Entries, is_regular_body}
use Rattle.rom_tree.specs.Kinds.{KindNumbers, by_kind, body_by}
use Rattle.rom_tree.proofs.ByKind.{by_kind_map}

only_regular_by : (k : KindNumbers) (t : ℕ) → by_kind k t false true false false false false false ≡ true
    → t ≡ k.of_regular
only_regular_by k t e =
    elim (eqb_tells t k.of_regular) [
      | inl h ↦ h.1
      | inr h ↦
          elim (eqb_tells t k.of_directory) [
            | inl i ↦ absurd (false≢true (rw i.0 at e))
            | inr i ↦
                elim (eqb_tells t k.of_symlink) [
                  | inl j ↦ absurd (false≢true (rw (i.0, h.0, j.0) at e))
                  | inr j ↦
                      elim (eqb_tells t k.of_block) [
                        | inl l ↦ absurd (false≢true (rw (i.0, h.0, j.0, l.0) at e))
                        | inr l ↦
                            elim (eqb_tells t k.of_character) [
                              | inl m ↦ absurd (false≢true (rw (i.0, h.0, j.0, l.0, m.0) at e))
                              | inr m ↦
                                  elim (eqb_tells t k.of_socket) [
                                    | inl n ↦ absurd (false≢true (rw (i.0, h.0, j.0, l.0, m.0, n.0) at e))
                                    | inr n ↦ absurd (false≢true (rw (i.0, h.0, j.0, l.0, m.0, n.0) at e))
                                  ]
                            ]
                      ]
                ]
          ]
    ]

pub only_regular : (k : KindNumbers) (t : ℕ) (ps : List ℕ) (es : Entries) → is_regular_body (body_by k t ps es) ≡ true
    → t ≡ k.of_regular
only_regular k t ps es e = only_regular_by k t
    (sym (by_kind_map is_regular_body k t (directory es) (regular ps) (symlink ps) block character socket fifo) ∙ e)
