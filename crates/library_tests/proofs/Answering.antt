-- What the sample's numbers name, and its entries and runs.
use Rattle.std.proofs.Common.{◌≡◌, ◌≢◌, ℕ, zero, suc, ◌+◌, ◌-◌, ◌<◌, ◌≤◌, List, length, Some, None, refl, sym, ap}
use Rattle.std.proofs.Common.{subst, ◌∙◌, arith}
use Rattle.rom_tree.specs.Tree.{Node, ino_of, places_of, entries_of, entry_at, entry_count, node_at}
use Rattle.rom_tree.specs.Image.{image_node, HasNode, stat_of, IsEntry, IsRun, LieIn}
use Rattle.rom_tree.specs.declared.types.Stat.{Stat}
use Rattle.rom_tree.proofs.Nodes.{node_at-some, entry_at-none}
use Rattle.rom_tree.proofs.Named.{some_is, node_by}
use Rattle.rom_tree.specs.Tree.{row_from}
use Rattle.rom_tree.proofs.Numbers.{length_row, row_at}
use Rattle.library_tests.specs.Sample.{sample_bytes, root, bin, sh, deep, pipe, link, disk, tty, log, empty}
use Rattle.library_tests.specs.SampleLaws.{sample, each}

-- what holds of each node holds of each that a number names
pub each_named : (P : ℕ → Node → Type 0) → P 1 root → P 2 bin → P 3 sh → P 4 deep → P 5 pipe → P 6 link → P 7 disk
    → P 8 tty → P 9 log → P 10 empty → (n : ℕ) (x : Node) → image_node sample n ≡ Some x → P n x
each_named P a b c d e f g h i j n x q =
    let r = node_at-some root n x q in
    let Q : ℕ → Type 0 = λ v. P v x in
    subst Q r.number (each (λ y. P (ino_of y) y) a b c d e f g h i j x r.within)

pub node1 : image_node sample 1 ≡ Some root
unfolding node_at
node1 = refl

pub node2 : image_node sample 2 ≡ Some bin
unfolding node_at
node2 = refl

pub node3 : image_node sample 3 ≡ Some sh
unfolding node_at
node3 = refl

pub node4 : image_node sample 4 ≡ Some deep
unfolding node_at
node4 = refl

pub node5 : image_node sample 5 ≡ Some pipe
unfolding node_at
node5 = refl

pub node6 : image_node sample 6 ≡ Some link
unfolding node_at
node6 = refl

pub node7 : image_node sample 7 ≡ Some disk
unfolding node_at
node7 = refl

pub node8 : image_node sample 8 ≡ Some tty
unfolding node_at
node8 = refl

pub node9 : image_node sample 9 ≡ Some log
unfolding node_at
node9 = refl

pub node10 : image_node sample 10 ≡ Some empty
unfolding node_at
node10 = refl

-- the numbers from 1 to 10 name nodes
pub has : (n : ℕ) → 1 ≤ n → n ≤ 10 → HasNode sample n
has zero h k = absurd (omega arith)
has (suc zero) h k = some_is (image_node sample 1) root node1
has (suc (suc zero)) h k = some_is (image_node sample 2) bin node2
has (suc (suc (suc zero))) h k = some_is (image_node sample 3) sh node3
has (suc (suc (suc (suc zero)))) h k = some_is (image_node sample 4) deep node4
has (suc (suc (suc (suc (suc zero))))) h k = some_is (image_node sample 5) pipe node5
has (suc (suc (suc (suc (suc (suc zero)))))) h k = some_is (image_node sample 6) link node6
has (suc (suc (suc (suc (suc (suc (suc zero))))))) h k = some_is (image_node sample 7) disk node7
has (suc (suc (suc (suc (suc (suc (suc (suc zero)))))))) h k = some_is (image_node sample 8) tty node8
has (suc (suc (suc (suc (suc (suc (suc (suc (suc zero))))))))) h k = some_is (image_node sample 9) log node9
has (suc (suc (suc (suc (suc (suc (suc (suc (suc (suc zero)))))))))) h k = some_is (image_node sample 10) empty node10
has (suc (suc (suc (suc (suc (suc (suc (suc (suc (suc (suc n))))))))))) h k = absurd (omega arith)

-- and no others do
pub within : (n : ℕ) → HasNode sample n → (1 ≤ n) × (n ≤ 10)
within n h = let x = node_by sample n h in each_named (λ m y. (1 ≤ m) × (m ≤ 10)) (omega arith, omega arith)
    (omega arith, omega arith) (omega arith, omega arith) (omega arith, omega arith) (omega arith, omega arith)
    (omega arith, omega arith) (omega arith, omega arith) (omega arith, omega arith) (omega arith, omega arith)
    (omega arith, omega arith) n x.0 x.1

-- a number names one node
pub is_node : (n k : ℕ) (y : Node) → image_node sample k ≡ Some y → n ≡ k → (x : Node) → image_node sample n ≡ Some x
    → y ≡ x
is_node n k y h e x q = let p : Some y ≡ Some x = sym h ∙ (ap (image_node sample) (sym e) ∙ q) in cc

pub stat_is : (n k : ℕ) (y : Node) (s : Stat) → image_node sample k ≡ Some y → n ≡ k → s ≡ stat_of y → (x : Node)
    → image_node sample n ≡ Some x → s ≡ stat_of x
stat_is n k y s h e q x r = q ∙ ap stat_of (is_node n k y h e x r)

-- the last number
pub is_last : (n : ℕ) (x : Node) → image_node sample n ≡ Some x → 10 ≤ n → empty ≡ x
is_last = each_named (λ n x. 10 ≤ n → empty ≡ x) (λ h. absurd (omega arith)) (λ h. absurd (omega arith))
    (λ h. absurd (omega arith)) (λ h. absurd (omega arith)) (λ h. absurd (omega arith)) (λ h. absurd (omega arith))
    (λ h. absurd (omega arith)) (λ h. absurd (omega arith)) (λ h. absurd (omega arith)) (λ h. refl)

-- an entry of the node of a number
pub entry_is : (d c k j : ℕ) (y target : Node) (name nm : List ℕ) (n after : ℕ) → image_node sample k ≡ Some y
    → entry_at (entries_of y) j ≡ Some (name, target) → d ≡ k → c ≡ j → nm ≡ name → n ≡ ino_of target → after ≡ j + 1
    → LieIn sample_bytes name
    → (x : Node) (i : ℕ) → image_node sample d ≡ Some x → sample.cursor_index d c ≡ Some i
    → IsEntry sample d (entries_of x) i nm n after
entry_is d c k j y target name nm n after h e p q r s t o x i u v =
    let same : y ≡ x = is_node d k y h p x u in
    let index : i ≡ j = (let w : c ≡ i = cc in sym w ∙ q) in
    rw (← same, index, r) (record {
      target = target;
      at = e;
      number = sym s;
      next = ap (λ (w : ℕ). Some w) t;
      lies = o;
    })

-- at the end of each list there is no entry
pub no_entry : (n : ℕ) (x : Node) → image_node sample n ≡ Some x → (c : ℕ) → (n ≡ 1 → 7 ≤ c) → (n ≡ 2 → 2 ≤ c)
    → (n ≡ 4 → 1 ≤ c) → entry_at (entries_of x) c ≡ None
no_entry =
    each_named (λ n x. (c : ℕ) → (n ≡ 1 → 7 ≤ c) → (n ≡ 2 → 2 ≤ c) → (n ≡ 4 → 1 ≤ c) → entry_at (entries_of x) c ≡ None)
    (λ c f g h. entry_at-none (entries_of root) c (f refl))
    (λ c f g h. entry_at-none (entries_of bin) c (g refl))
    (λ c f g h. refl)
    (λ c f g h. entry_at-none (entries_of deep) c (h refl))
    (λ c f g h. refl)
    (λ c f g h. refl)
    (λ c f g h. refl)
    (λ c f g h. refl)
    (λ c f g h. refl)
    (λ c f g h. refl)

-- no list is longer than the root's
pub few : (n : ℕ) (x : Node) → image_node sample n ≡ Some x → entry_count (entries_of x) ≤ 7
few = each_named (λ n x. entry_count (entries_of x) ≤ 7) (omega arith) (omega arith) (omega arith) (omega arith)
    (omega arith) (omega arith) (omega arith) (omega arith) (omega arith) (omega arith)

-- nodes whose contents have no bytes
pub no_places : (n : ℕ) (x : Node) → image_node sample n ≡ Some x → n ≢ 3 → n ≢ 6 → length (places_of x) ≡ 0
no_places = each_named (λ n x. n ≢ 3 → n ≢ 6 → length (places_of x) ≡ 0)
    (λ f g. refl)
    (λ f g. refl)
    (λ f g. absurd (f refl))
    (λ f g. refl)
    (λ f g. refl)
    (λ f g. absurd (g refl))
    (λ f g. refl)
    (λ f g. refl)
    (λ f g. refl)
    (λ f g. refl)

pub run_is : (place len off : ℕ) → off < len
    → IsRun (row_from place len) off (record { place = place + off; len = len - off })
run_is place len off h = record {
  some = omega arith;
  within = rw (length_row place len) (omega arith);
  row = λ j v. row_at place len (off + j) (omega arith) ∙ (omega arith);
}

pub run_none : (place len off : ℕ) → len ≤ off → length (row_from place len) ≤ off
run_none place len off h = rw (length_row place len) h
