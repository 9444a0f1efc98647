-- No bytes begin as an image of both formats, and what follows for the answers.
use Rattle.std.proofs.Common.{◌≡◌, ◌≢◌, ◌⊎◌, ℕ, subst, ◌≤◌, List, [], ◌∷◌, length, inl, inr, arith}
use Rattle.rom_fields.specs.Words.{word_be, word_le}
use Rattle.rom_tree.specs.Tree.{Node}
use Rattle.rom_tree.specs.declared.types.Limits.{Limits}
use Rattle.rom_fields.specs.declared.check_error.CheckError.{CheckError}
use Rattle.rom_fields.specs.declared.check_error.CheckError.TheVariants.{OutOfMemory, Fault}
use Rattle.romfs_format.specs.Tree.{RomfsTree}
use Rattle.romfs_image.specs.Checked.{IsRefused as RomfsRefused}
use Rattle.cramfs_image.specs.Checked.{IsRefused as CramfsRefused}
use Rattle.cramfs_format.specs.declared.order.Order.{Order}
use Rattle.cramfs_format.specs.declared.order.Order.TheVariants.{Little, Big}
use Rattle.cramfs_format.specs.Order.{word}
use Rattle.cramfs_format.proofs.Begins.{order_is}
use Rattle.cramfs_format.specs.Superblock.{magic as cramfs_magic, order_of}
use Rattle.cramfs_format.specs.Tree.{CramfsTree}
use Rattle.formats.specs.Begins.{Begins, BeginsRomfs, BeginsCramfs}
use Rattle.formats.specs.Format.{format_of}
use Rattle.formats.specs.declared.format.Format as code
use Rattle.formats.specs.declared.format.Format.TheVariants as of_code
use Rattle.image_check.specs.Checked.{HasTree, IsRefused}

-- the word of four bytes
little_front : (a b c d : ℕ) (rest : List ℕ) → a ≡ 45 → b ≡ 114 → c ≡ 111 → d ≡ 109
    → word_le (a ∷ b ∷ c ∷ d ∷ rest) 0 ≡ 684539205 → ⊥
unfolding word_le
little_front a b c d rest p q r s e = omega arith

big_front : (a b c d : ℕ) (rest : List ℕ) → a ≡ 45 → b ≡ 114 → c ≡ 111 → d ≡ 109
    → word_be (a ∷ b ∷ c ∷ d ∷ rest) 0 ≡ 684539205 → ⊥
unfolding word_be
big_front a b c d rest p q r s e = omega arith

front : (o : Order) (a b c d : ℕ) (rest : List ℕ) → a ≡ 45 → b ≡ 114 → c ≡ 111 → d ≡ 109
    → word o (a ∷ b ∷ c ∷ d ∷ rest) 0 ≡ cramfs_magic → ⊥
unfolding word
front Little a b c d rest p q r s e = little_front a b c d rest p q r s e
front Big a b c d rest p q r s e = big_front a b c d rest p q r s e

pub apart : (o : Order) (all : List ℕ) → BeginsRomfs all → word o all 0 ≡ cramfs_magic → ⊥
apart o [] h e = cc
apart o (a ∷ []) h e = cc
apart o (a ∷ b ∷ []) h e = cc
apart o (a ∷ b ∷ c ∷ []) h e = cc
apart o (a ∷ b ∷ c ∷ d ∷ rest) h e =
    let p : a ≡ 45 = cc in
    let q : b ≡ 114 = cc in
    let r : c ≡ 111 = cc in
    let s : d ≡ 109 = cc in
    front o a b c d rest p q r s e

-- the bytes of a tree begin as its format says
pub romfs_begins : {all : List ℕ} {most deepest : ℕ} {t : Node} → RomfsTree all most deepest t → BeginsRomfs all
romfs_begins r = r.super.begins

-- in any order in which the first word is the magic
pub begins_in : (o : Order) (all : List ℕ) → 4 ≤ length all → word o all 0 ≡ cramfs_magic → BeginsCramfs all
begins_in o all l e = (l, subst (λ (v : Order). word v all 0 ≡ cramfs_magic) (order_is o all e) e)

pub cramfs_begins : {o : Order} {all : List ℕ} {most deepest : ℕ} {t : Node} → CramfsTree o all most deepest t
    → BeginsCramfs all
cramfs_begins {o} {all} c = let l = c.super.long in begins_in o all (omega arith) c.super.begins

-- in neither
pub begins_not : (all : List ℕ) → word Little all 0 ≢ cramfs_magic → word Big all 0 ≢ cramfs_magic → BeginsCramfs all
    → ⊥
begins_not all h k b = in_neither (order_of all) b.1
  where
    in_neither : (o : Order) → word o all 0 ≡ cramfs_magic → ⊥
    in_neither Little e = h e
    in_neither Big e = k e

-- What the check of one format refuses holds no tree of the other.
pub refused_romfs : (all : List ℕ) (limits : Limits) (e : CheckError) → BeginsRomfs all → RomfsRefused all limits e
    → IsRefused all limits e
refused_romfs all limits OutOfMemory h r = tt
refused_romfs all limits (Fault number at) h r =
    λ t x. elim x [ inl y ↦ r t y | inr y ↦ apart y.0 all h y.1.super.begins ]

pub refused_cramfs : (all : List ℕ) (limits : Limits) (e : CheckError) → BeginsCramfs all → CramfsRefused all limits e
    → IsRefused all limits e
refused_cramfs all limits OutOfMemory h r = tt
refused_cramfs all limits (Fault number at) h r =
    λ t x. elim x [ inl y ↦ apart (order_of all) all (romfs_begins y) h.1 | inr y ↦ r t y ]

-- bytes of neither format hold no tree
pub no_tree : (all : List ℕ) (limits : Limits) → (BeginsRomfs all → ⊥) → (BeginsCramfs all → ⊥) → (t : Node)
    → HasTree all limits t → ⊥
no_tree all limits h k t x = elim x [ inl y ↦ h (romfs_begins y) | inr y ↦ k (cramfs_begins y.1) ]

-- the first bytes of a format of the code
pub begins_romfs : (f : code.Format) (all : List ℕ) → f ≡ of_code.Romfs → Begins (format_of f) all → BeginsRomfs all
begins_romfs f all e h = subst (λ (g : code.Format). Begins (format_of g) all) e h

pub begins_cramfs : (f : code.Format) (all : List ℕ) → (f ≡ of_code.Cramfs) ⊎ (f ≡ of_code.CramfsBig)
    → Begins (format_of f) all → BeginsCramfs all
begins_cramfs f all e h = elim e [
  | inl k ↦ (subst (λ (g : code.Format). Begins (format_of g) all) k h).0
  | inr k ↦ (subst (λ (g : code.Format). Begins (format_of g) all) k h).0
]
