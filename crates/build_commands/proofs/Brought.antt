-- Lines of attributes that were brought to the nearest have no misfit of attributes.
use Rattle.std.proofs.Common.{◌≡◌, ℕ, ◌≤◌, inl, inr, true, false, if◌then◌else◌, List, Option, Some, None, refl, sym}
use Rattle.std.proofs.Common.{ap, ◌∙◌, arith}
use Rattle.std.specs.Prelude.{◌==◌, min}
use Rattle.rom_tree.specs.declared.types.Kind.{Kind}
use Rattle.rom_tree.specs.declared.types.Kind.TheVariants as kind
use Rattle.romfs_format.specs.Tree.{mode_named}
use Rattle.romfs_layout.specs.Wells.{HasMode}
use Rattle.cramfs_format.specs.declared.order.Order.{Order}
use Rattle.cramfs_format.specs.declared.order.Order.TheVariants.{Little, Big}
use Rattle.manifest.specs.Lines.{is_hard}
use Rattle.manifest.specs.declared.line.Line.{Line}
use Rattle.manifest.specs.declared.line.Word.{Word}
use Rattle.manifest.specs.declared.line.Word.TheVariants.{Dir, File, Slink, Block, Character, Fifo, Socket, Hard, Same}
use Rattle.manifest_tree.specs.Names.{Inode}
use Rattle.manifest_tree.specs.Tree.{inode_by, inode_of, with_contents}
use Rattle.formats.specs.Format.{romfs, cramfs}
use Rattle.manifest_layout.specs.Misfit.{HasBadAttribute}
use Rattle.formats.specs.Format.{format_of}
use Rattle.formats.specs.declared.format.Format.{Format}
use Rattle.formats.specs.declared.format.Format.TheVariants.{Romfs, Cramfs, CramfsBig}
use Rattle.build_commands.specs.Nearest.{is_runnable, runnable_mode, romfs_mode, in_romfs, in_cramfs, nearest_in}
use Rattle.build_commands.specs.Nearest.{HasSmallNumbers}

-- What an inode has of a line.
record Has (k : Kind) (l : Line) (i : Inode) : Type 0 where
  pub kind : i.kind ≡ k
  pub mode : i.mode ≡ l.mode
  pub uid : i.uid ≡ l.uid
  pub gid : i.gid ≡ l.gid
  pub major : i.major ≡ l.major
  pub minor : i.minor ≡ l.minor

kind_by : Word → Kind
kind_by Dir = kind.Directory
kind_by File = kind.Regular
kind_by Same = kind.Regular
kind_by Hard = kind.Regular
kind_by Slink = kind.Symlink
kind_by Block = kind.Block
kind_by Character = kind.Character
kind_by Fifo = kind.Fifo
kind_by Socket = kind.Socket

of_contents : (lines : List Line) (sizes : List ℕ) (l : Line) (o : Option Line)
    → Has kind.Regular l (with_contents lines sizes l o)
of_contents lines sizes l None = record { kind = refl; mode = refl; uid = refl; gid = refl; major = refl; minor = refl }
of_contents lines sizes l (Some x) =
    record { kind = refl; mode = refl; uid = refl; gid = refl; major = refl; minor = refl }

has : (lines : List Line) (sizes : List ℕ) (w : Word) (l : Line) → Has (kind_by w) l (inode_by lines sizes w l)
unfolding kind_by
has lines sizes Dir l = record { kind = refl; mode = refl; uid = refl; gid = refl; major = refl; minor = refl }
has lines sizes File l = of_contents lines sizes l _
has lines sizes Same l = of_contents lines sizes l _
has lines sizes Hard l = record { kind = refl; mode = refl; uid = refl; gid = refl; major = refl; minor = refl }
has lines sizes Slink l = record { kind = refl; mode = refl; uid = refl; gid = refl; major = refl; minor = refl }
has lines sizes Block l = record { kind = refl; mode = refl; uid = refl; gid = refl; major = refl; minor = refl }
has lines sizes Character l = record { kind = refl; mode = refl; uid = refl; gid = refl; major = refl; minor = refl }
has lines sizes Fifo l = record { kind = refl; mode = refl; uid = refl; gid = refl; major = refl; minor = refl }
has lines sizes Socket l = record { kind = refl; mode = refl; uid = refl; gid = refl; major = refl; minor = refl }

-- romfs

mode_of : Kind → ℕ → ℕ
mode_of kind.Directory m = mode_named 1 (m == 493)
mode_of kind.Regular m = mode_named 2 (m == 493)
mode_of kind.Symlink m = mode_named 3 (m == 493)
mode_of kind.Block m = mode_named 4 (m == 493)
mode_of kind.Character m = mode_named 5 (m == 493)
mode_of kind.Socket m = mode_named 6 (m == 493)
mode_of kind.Fifo m = mode_named 7 (m == 493)

runs_in : (k : Kind) (m : ℕ) → mode_of k 493 ≡ 493 → mode_of k 420 ≡ 420 → mode_of k (runnable_mode m) ≡ runnable_mode m
runs_in k m h n = elim (is_runnable m) as (λ b. mode_of k (if b then 493 else 420) ≡ (if b then 493 else 420))
    [ true ↦ h | false ↦ n ]

takes_mode : (w : Word) (m : ℕ) → is_hard w ≡ false → mode_of (kind_by w) (romfs_mode w m) ≡ romfs_mode w m
unfolding kind_by mode_of
takes_mode Dir m h = runs_in kind.Directory m refl refl
takes_mode File m h = runs_in kind.Regular m refl refl
takes_mode Same m h = runs_in kind.Regular m refl refl
takes_mode Slink m h = refl
takes_mode Block m h = refl
takes_mode Character m h = refl
takes_mode Fifo m h = refl
takes_mode Socket m h = refl
takes_mode Hard m h = absurd cc

has_mode : (k : Kind) (i : Inode) → i.kind ≡ k → mode_of k i.mode ≡ i.mode → HasMode i
unfolding mode_of
has_mode kind.Directory i e h = rw e h
has_mode kind.Regular i e h = rw e h
has_mode kind.Symlink i e h = rw e h
has_mode kind.Block i e h = rw e h
has_mode kind.Character i e h = rw e h
has_mode kind.Socket i e h = rw e h
has_mode kind.Fifo i e h = rw e h

romfs_takes : (i : Inode) → i.uid ≡ 0 → i.gid ≡ 0 → HasMode i → i.major ≤ 65535 → i.minor ≤ 65535
    → HasBadAttribute romfs i → ⊥
romfs_takes i u g m a b (inl h) = h u
romfs_takes i u g m a b (inr (inl h)) = h g
romfs_takes i u g m a b (inr (inr (inl h))) = h m
romfs_takes i u g m a b (inr (inr (inr (inl h)))) = absurd (omega (arith, a, h))
romfs_takes i u g m a b (inr (inr (inr (inr h)))) = absurd (omega (arith, b, h))

in_romfs_fits : (w : Word) (l : Line) (i : Inode) → is_hard w ≡ false → l.uid ≡ 0 → l.gid ≡ 0 → (m : ℕ)
    → l.mode ≡ romfs_mode w m
    → l.major ≤ 65535 → l.minor ≤ 65535 → Has (kind_by w) l i → HasBadAttribute romfs i → ⊥
in_romfs_fits w l i h u g m e a b s bad =
    let e2 : i.mode ≡ romfs_mode w m = s.mode ∙ e in
    let t : mode_of (kind_by w) i.mode ≡ i.mode = ap (mode_of (kind_by w)) e2 ∙ takes_mode w m h ∙ sym e2 in
    romfs_takes i (s.uid ∙ u) (s.gid ∙ g) (has_mode (kind_by w) i s.kind t) (omega (arith, a, s.major))
    (omega (arith, b, s.minor)) bad

-- cramfs

cramfs_takes : (o : Order) (i : Inode) → i.uid ≤ 65535 → i.gid ≤ 255 → i.major ≤ 255 → i.minor ≤ 255
    → HasBadAttribute (cramfs o) i → ⊥
cramfs_takes o i u g a b (inl h) = absurd (omega (arith, u, h))
cramfs_takes o i u g a b (inr (inl h)) = absurd (omega (arith, g, h))
cramfs_takes o i u g a b (inr (inr (inl h))) = absurd (omega (arith, a, h))
cramfs_takes o i u g a b (inr (inr (inr h))) = absurd (omega (arith, b, h))

at_most : (n k : ℕ) → min n k ≤ k
at_most n k = omega arith

in_cramfs_fits : (o : Order) (w : Word) (l : Line) (i : Inode) → l.major ≤ 255 → l.minor ≤ 255
    → Has (kind_by w) (in_cramfs l) i → HasBadAttribute (cramfs o) i → ⊥
in_cramfs_fits o w l i a b s bad =
    let u = at_most l.uid 65535 in
    let g = at_most l.gid 255 in
    cramfs_takes o i (omega (arith, u, s.uid)) (omega (arith, g, s.gid)) (omega (arith, a, s.major))
    (omega (arith, b, s.minor)) bad

pub fits : (f : Format) (lines : List Line) (sizes : List ℕ) (l : Line) → is_hard l.word ≡ false → HasSmallNumbers f l
    → HasBadAttribute (format_of f) (inode_of lines sizes (nearest_in f l)) → ⊥
unfolding inode_of
fits Romfs lines sizes l h n bad =
    in_romfs_fits l.word (in_romfs l) _ h refl refl l.mode refl n.0 n.1 (has lines sizes l.word (in_romfs l)) bad
fits Cramfs lines sizes l h n bad = in_cramfs_fits Little l.word l _ n.0 n.1 (has lines sizes l.word (in_cramfs l)) bad
fits CramfsBig lines sizes l h n bad = in_cramfs_fits Big l.word l _ n.0 n.1 (has lines sizes l.word (in_cramfs l)) bad
