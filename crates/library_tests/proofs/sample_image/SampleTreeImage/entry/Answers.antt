use Rattle.std.proofs.Common.{◌∷◌, [], ℕ, None, refl, arith, ◌≡◌, subst}
use Rattle.rom_tree.specs.Tree.{entries_of, entry_at}
use Rattle.library_tests.specs.Sample.{root, bin, sh, deep, pipe, link, disk, tty, log, empty}
use Rattle.library_tests.proofs.Answering.{entry_is, no_entry, node1, node2, node4}
use Rattle.library_tests.proofs.sample_image.SampleTreeImage.entry.Goals as goal
use Rattle.library_tests.proofs.sample_image.SampleTreeImage.entry.Goals.{in_default-via-in-1+in_default}
use Rattle.library_tests.proofs.sample_image.SampleTreeImage.entry.Goals.{in_default-via-in-2+in_default}
use Rattle.library_tests.proofs.sample_image.SampleTreeImage.entry.Goals.{in_default-via-in-4+in_default}
use Rattle.library_tests.proofs.sample_image.SampleTreeImage.entry.Goals.{in_default-via-in_default}

pub returns-in-1-eq0 : goal.returns-in-1-eq0
returns-in-1-eq0 c = entry_is c.args.d.0 c.args.c.0 1 0 root bin
    (98 ∷ 105 ∷ 110 ∷ []) c.found.result.name.now c.found.result.node.0 c.found.result.cursor.0 node1 refl
    c.in-1-eq0.is-0 c.in-1-eq0.is-1 c.found.ensures.name c.found.ensures.node c.found.ensures.cursor
    (9, omega arith, refl)

pub returns-in-1-eq1 : goal.returns-in-1-eq1
returns-in-1-eq1 c = entry_is c.args.d.0 c.args.c.0 1 1 root link
    (97 ∷ 32 ∷ 98 ∷ 37 ∷ []) c.found-in-1-eq1.result.name.now c.found-in-1-eq1.result.node.0
    c.found-in-1-eq1.result.cursor.0 node1 refl c.in-1-eq1.is-0 c.in-1-eq1.is-1 c.found-in-1-eq1.ensures.name
    c.found-in-1-eq1.ensures.node c.found-in-1-eq1.ensures.cursor (5, omega arith, refl)

pub returns-in-1-eq2 : goal.returns-in-1-eq2
returns-in-1-eq2 c = entry_is c.args.d.0 c.args.c.0 1 2 root disk
    (100 ∷ 105 ∷ 115 ∷ 107 ∷ []) c.found-in-1-eq2.result.name.now c.found-in-1-eq2.result.node.0
    c.found-in-1-eq2.result.cursor.0 node1 refl c.in-1-eq2.is-0 c.in-1-eq2.is-1 c.found-in-1-eq2.ensures.name
    c.found-in-1-eq2.ensures.node c.found-in-1-eq2.ensures.cursor (12, omega arith, refl)

pub returns-in-1-eq3 : goal.returns-in-1-eq3
returns-in-1-eq3 c = entry_is c.args.d.0 c.args.c.0 1 3 root tty
    (116 ∷ 116 ∷ 121 ∷ []) c.found-in-1-eq3.result.name.now c.found-in-1-eq3.result.node.0
    c.found-in-1-eq3.result.cursor.0 node1 refl c.in-1-eq3.is-0 c.in-1-eq3.is-1 c.found-in-1-eq3.ensures.name
    c.found-in-1-eq3.ensures.node c.found-in-1-eq3.ensures.cursor (16, omega arith, refl)

pub returns-in-1-eq4 : goal.returns-in-1-eq4
returns-in-1-eq4 c = entry_is c.args.d.0 c.args.c.0 1 4 root log
    (108 ∷ 111 ∷ 103 ∷ []) c.found-in-1-eq4.result.name.now c.found-in-1-eq4.result.node.0
    c.found-in-1-eq4.result.cursor.0 node1 refl c.in-1-eq4.is-0 c.in-1-eq4.is-1 c.found-in-1-eq4.ensures.name
    c.found-in-1-eq4.ensures.node c.found-in-1-eq4.ensures.cursor (19, omega arith, refl)

pub returns-in-1-eq5 : goal.returns-in-1-eq5
returns-in-1-eq5 c = entry_is c.args.d.0 c.args.c.0 1 5 root sh
    (195 ∷ 169 ∷ 127 ∷ []) c.found-in-1-eq5.result.name.now c.found-in-1-eq5.result.node.0
    c.found-in-1-eq5.result.cursor.0 node1 refl c.in-1-eq5.is-0 c.in-1-eq5.is-1 c.found-in-1-eq5.ensures.name
    c.found-in-1-eq5.ensures.node c.found-in-1-eq5.ensures.cursor (22, omega arith, refl)

pub returns-in-1-eq6 : goal.returns-in-1-eq6
returns-in-1-eq6 c = entry_is c.args.d.0 c.args.c.0 1 6 root empty
    (101 ∷ 109 ∷ 112 ∷ 116 ∷ 121 ∷ []) c.found-in-1-eq6.result.name.now c.found-in-1-eq6.result.node.0
    c.found-in-1-eq6.result.cursor.0 node1 refl c.in-1-eq6.is-0 c.in-1-eq6.is-1 c.found-in-1-eq6.ensures.name
    c.found-in-1-eq6.ensures.node c.found-in-1-eq6.ensures.cursor (25, omega arith, refl)

pub returns-in-2-eq0 : goal.returns-in-2-eq0
returns-in-2-eq0 c = entry_is c.args.d.0 c.args.c.0 2 0 bin sh
    (115 ∷ 104 ∷ []) c.found-in-2-eq0.result.name.now c.found-in-2-eq0.result.node.0 c.found-in-2-eq0.result.cursor.0
    node2 refl c.in-2-eq0.is-0 c.in-2-eq0.is-1 c.found-in-2-eq0.ensures.name c.found-in-2-eq0.ensures.node
    c.found-in-2-eq0.ensures.cursor (30, omega arith, refl)

pub returns-in-2-eq1 : goal.returns-in-2-eq1
returns-in-2-eq1 c = entry_is c.args.d.0 c.args.c.0 2 1 bin deep
    (100 ∷ 101 ∷ 101 ∷ 112 ∷ []) c.found-in-2-eq1.result.name.now c.found-in-2-eq1.result.node.0
    c.found-in-2-eq1.result.cursor.0 node2 refl c.in-2-eq1.is-0 c.in-2-eq1.is-1 c.found-in-2-eq1.ensures.name
    c.found-in-2-eq1.ensures.node c.found-in-2-eq1.ensures.cursor (32, omega arith, refl)

pub returns-in-4-eq0 : goal.returns-in-4-eq0
returns-in-4-eq0 c = entry_is c.args.d.0 c.args.c.0 4 0 deep pipe
    (112 ∷ []) c.found-in-4-eq0.result.name.now c.found-in-4-eq0.result.node.0 c.found-in-4-eq0.result.cursor.0 node4
    refl c.in-4-eq0.is-0 c.in-4-eq0.is-1 c.found-in-4-eq0.ensures.name c.found-in-4-eq0.ensures.node
    c.found-in-4-eq0.ensures.cursor (36, omega arith, refl)

pub returns-in_default : goal.returns-in_default
returns-in_default c = λ x i e k.
    let n : ℕ = c.args.d.0 in
    let j : ℕ = c.args.c.0 in
    let same : j ≡ i = cc in
    let P : ℕ → Type 0 = λ v. entry_at (entries_of x) v ≡ None in
    subst P same (elim c.in_default.branch [
      | in_default-via-in-1+in_default w ↦
          (let h = w.in_default.is-1 in let q = w.in_default.is-0 in no_entry n x e j (λ z. omega arith)
          (λ z. omega arith) (λ z. omega arith))
      | in_default-via-in-2+in_default w ↦
          (let h = w.in_default.is-1 in let q = w.in_default.is-0 in no_entry n x e j (λ z. omega arith)
          (λ z. omega arith) (λ z. omega arith))
      | in_default-via-in-4+in_default w ↦
          (let h = w.in_default.is-1 in let q = w.in_default.is-0 in no_entry n x e j (λ z. omega arith)
          (λ z. omega arith) (λ z. omega arith))
      | in_default-via-in_default w ↦ (let q = w.in_default.is-0 in no_entry n x e j (λ z. omega arith)
          (λ z. omega arith) (λ z. omega arith))
    ])
