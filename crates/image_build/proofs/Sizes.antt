-- The sizes of files as those of sources, by the lines of the files.
use Rattle.std.proofs.Common.{◌≡◌, ◌≢◌, ℕ, zero, suc, ◌+◌, ◌^◌, ◌<◌, ◌≤◌, List, [], ◌∷◌, map, length, get_or, replicate}
use Rattle.std.proofs.Common.{inl, inr, refl, sym, ap, ◌∙◌, arith, set}
use Rattle.std.proofs.lemmas.Bool.Decides.{eqb_tells}
use Rattle.std.proofs.lemmas.List.{get_or-set_same, get_or-set_other, length-set, length-replicate}
use Rattle.std.specs.List.{AllByRecursion as Every}
use Rattle.record_forest.specs.Members.{Pairs}
use Rattle.record_forest.proofs.Lists.{every_weaker, every_both}
use Rattle.manifest_tree.specs.Names.{Fill, no_bytes, text, source, Inode}
use Rattle.manifest_layout.proofs.Sized.{size_is}
use Rattle.image_build.proofs.Owned.{HasOwn}

abbrev pub size_by : Fill → ℕ → ℕ
size_by no_bytes n = 0
size_by (text t) n = 0
size_by (source k) n = n

-- the number of bytes of a source that a file has
abbrev pub own_size : Inode → ℕ
own_size i = size_by i.fill i.size

-- a number above all lines
abbrev pub top_of : List Inode → ℕ
top_of [] = 0
top_of (i ∷ is) = suc (i.line + top_of is)

-- the size of each file at the number of its line
abbrev pub spread : ℕ → List Inode → List ℕ
spread top [] = replicate top 0
spread top (i ∷ is) = set (spread top is) i.line (own_size i)

pub below_top : (is : List Inode) (top : ℕ) → top_of is ≤ top → Every (λ i. i.line < top) is
below_top [] top h = tt
below_top (i ∷ is) top h = (omega arith, below_top is top (omega arith))

long : (top : ℕ) (is : List Inode) → length (spread top is) ≡ top
long top [] = length-replicate top 0
long top (i ∷ is) = length-set (spread top is) i.line (own_size i) ∙ long top is

pub at_line : (top : ℕ) (is : List Inode) → Pairs (λ i j. i.line ≢ j.line) is → Every (λ i. i.line < top) is
    → Every (λ i. get_or (spread top is) i.line 0 ≡ own_size i) is
at_line top [] p l = tt
at_line top (i ∷ is) p l =
    let n = long top is in
    let low = l.0 in
    let Q : Inode → Type 0 = λ j. (i.line ≢ j.line) × (get_or (spread top is) j.line 0 ≡ own_size j) in (
      get_or-set_same (spread top is) i.line (own_size i) 0 (omega (arith, n, low)),
      every_weaker Q (λ j. get_or (spread top (i ∷ is)) j.line 0 ≡ own_size j)
          (λ j k. get_or-set_other (spread top is) i.line j.line (own_size i) 0 (λ e. k.0 (sym e)) ∙ k.1) is
          (every_both (λ j. i.line ≢ j.line) (λ j. get_or (spread top is) j.line 0 ≡ own_size j) is p.0
          (at_line top is p.1 l.1)),
    )

none_there : (top k : ℕ) → get_or (replicate {A = ℕ} top 0) k 0 ≡ 0
none_there zero k = refl
none_there (suc top) zero = refl
none_there (suc top) (suc k) = none_there top k

pub all_small : (top : ℕ) (is : List Inode) → Every (λ i. i.line < top) is → Every (λ i. own_size i < 2 ^ 32) is
    → (file : ℕ) → get_or (spread top is) file 0 < 2 ^ 32
all_small top [] l s file = let e = none_there top file in omega (arith, e)
all_small top (i ∷ is) l s file = elim (eqb_tells file i.line) [
  | inl y ↦
      let n = long top is in
      let low = l.0 in
      let small = s.0 in
      let e : get_or (spread top (i ∷ is)) file 0 ≡ own_size i =
      ap (λ (k : ℕ). get_or (spread top (i ∷ is)) k 0) y.1
      ∙ get_or-set_same (spread top is) i.line (own_size i) 0 (omega (arith, n, low)) in
      omega (arith, e, small)
  | inr y ↦
      let e = get_or-set_other (spread top is) i.line file (own_size i) 0 y.1 in
      let r = all_small top is l.1 s.1 file in
      omega (arith, e, r)
]

-- contents of these sizes are those of the files
own_by : (f : Fill) (n k : ℕ) → f ≡ source k → size_by f n ≡ n
own_by no_bytes n k e = absurd (cc)
own_by (text t) n k e = absurd (cc)
own_by (source j) n k e = refl

pub have_own : (top : ℕ) (is all : List Inode) (cs : List (List ℕ)) → map length cs ≡ spread top all
    → Every (λ i. get_or (spread top all) i.line 0 ≡ own_size i) is → Every (HasOwn cs) is
have_own top is all cs e h =
    every_weaker (λ i. get_or (spread top all) i.line 0 ≡ own_size i) (HasOwn cs)
    (λ i k j f. size_is cs i.line ∙ ap (λ (ns : List ℕ). get_or ns i.line 0) e ∙ k ∙ own_by i.fill i.size j f) is h
