-- Images of several files, one more each time.
use Rattle.std.proofs.lemmas.List.{length-map, take_rest}
use Rattle.std.proofs.Common.{◌≡◌, ℕ, ◌<◌, ◌≤◌, List, [], ◌∷◌, ◌++◌, length, map, refl, sym, ap, ◌∙◌, arith}
use Rattle.std.proofs.Common.{append_assoc, get_or, zero, suc, length-append, take, drop, ◌-◌}
use Rattle.rom_tree.specs.Tree.{levels}
use Rattle.rom_tree.specs.Image.{Image}
use Rattle.path_walk.specs.Graft.{AreShallow, tree_in}
use Rattle.rom_commands.specs.Answers.{Holds, HasFault}
use Rattle.rom_commands.specs.Serving.{HoldAll, HasFirstFault}
use Rattle.rom_commands.specs.Refused.{IsFaultAt, IsFirst}
use Rattle.rom_commands.specs.declared.several.NoImage.{NoImage}
use Rattle.rom_commands.specs.declared.several.NoImage.TheVariants.{OutOfMemory, Fault}

pub held_more : (bs : List (List ℕ)) (ms : List Image) (b : List ℕ) (m : Image) → HoldAll bs ms → Holds b m
    → HoldAll (bs ++ b ∷ []) (ms ++ m ∷ [])
held_more [] [] b m h k = (k, tt)
held_more (x ∷ bs) (y ∷ ms) b m h k = (h.0, held_more bs ms b m h.1 k)
held_more [] (y ∷ ms) b m h k = elim h [ ]
held_more (x ∷ bs) [] b m h k = elim h [ ]

pub held_length : (bs : List (List ℕ)) (ms : List Image) → HoldAll bs ms → length bs ≡ length ms
held_length [] [] h = refl
held_length (x ∷ bs) (y ∷ ms) h = ap suc (held_length bs ms h.1)
held_length [] (y ∷ ms) h = elim h [ ]
held_length (x ∷ bs) [] h = elim h [ ]

pub some_held : (bs : List (List ℕ)) (ms : List Image) → HoldAll bs ms → 0 < length bs → 0 < length ms
some_held bs ms h some = let k = held_length bs ms h in omega arith

pub most_held : (bs : List (List ℕ)) (ms : List Image) → HoldAll bs ms → length bs ≤ 8 → length ms ≤ 8
most_held bs ms h few = let k = held_length bs ms h in omega arith

shallow_at : (ms : List Image) (m : Image) → AreShallow ms → levels m.tree ≤ 65 → (i : ℕ)
    → levels (tree_in (ms ++ m ∷ []) i) ≤ 65
shallow_at [] m h k zero = k
shallow_at [] m h k (suc i) = h i
shallow_at (x ∷ ms) m h k zero = h 0
shallow_at (x ∷ ms) m h k (suc i) = shallow_at ms m (λ j. h (suc j)) k i

pub shallow_more : (ms : List Image) (m : Image) → AreShallow ms → levels m.tree ≤ 65 → AreShallow (ms ++ m ∷ [])
shallow_more ms m h k = shallow_at ms m h k

pub none_shallow : AreShallow []
none_shallow i = omega arith

-- the files that are looked at, and what is left of them
pub one_further : {X : Type 0} (all done rest others : List X) (x : X) → all ≡ done ++ rest → rest ≡ x ∷ others
    → all ≡ (done ++ x ∷ []) ++ others
one_further all done rest others x e f = e ∙ (ap (λ v. done ++ v) f ∙ sym (append_assoc done (x ∷ []) others))

first_fault : (all done rest others : List (List ℕ)) (b : List ℕ) (ms : List Image) (number at image : ℕ)
    → all ≡ done ++ rest → rest ≡ b ∷ others → HoldAll done ms → image ≡ length ms → HasFault b number at
    → HasFirstFault all number at image
first_fault all done rest others b ms number at image e f h k n = record {
  before = done;
  bytes = b;
  after = others;
  split = e ∙ ap (λ v. done ++ v) f;
  images = ms;
  held = h;
  counted = k ∙ sym (held_length done ms h);
  fault = n;
}

pub first_by : (all done rest others : List (List ℕ)) (b : List ℕ) (ms : List Image) (image : ℕ) (e : NoImage)
    → all ≡ done ++ rest → rest ≡ b ∷ others → HoldAll done ms → image ≡ length ms → IsFaultAt b image e → IsFirst all e
first_by all done rest others b ms image OutOfMemory e f h k n = tt
first_by all done rest others b ms image (Fault number at i) e f h k n =
    first_fault all done rest others b ms number at i e f h (n.1 ∙ k) n.0

-- as many images were found as files were looked at
pub few_held : {X : Type 0} (f : X → List ℕ) (files : List X) (done rest : List (List ℕ)) (ms : List Image)
    → length files ≤ 8 → map f files ≡ done ++ rest → HoldAll done ms → length ms ≤ 8
few_held f files done rest ms l e h =
    let p = length-map files f in
    let q : length (map f files) ≡ length (done ++ rest) = ap length e in
    let r = held_length done ms h in
    let s = length-append done rest in
    omega arith

-- a slice that is not empty, as its first member and the others
pub head_rest : {X : Type 0} (xs : List X) (d : X) → 1 ≤ length xs → d ≡ get_or xs 0 d
    → xs ≡ d ∷ take (length xs - 1) (drop 1 xs)
head_rest [] d l e = absurd (omega (arith, l))
head_rest (x ∷ xs) d l e = ap (λ v. v ∷ xs) (sym e) ∙ ap (λ v. d ∷ v) (sym (take_rest (x ∷ xs) 1))
