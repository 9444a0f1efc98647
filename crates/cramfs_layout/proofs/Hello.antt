-- What is asked of a volume can be met: a file of five bytes, and a directory with it once more.
use Rattle.std.proofs.Common.{◌≡◌, ◌≢◌, ℕ, zero, suc, ◌^◌, ◌<◌, true, List, [], ◌∷◌, codes, ap, subst, sym, get_or}
use Rattle.std.proofs.Common.{refl, arith, inl, inr}
use Rattle.std.specs.List.{Contains}
use Rattle.rom_tree.specs.declared.types.Kind.TheVariants.{Directory, Regular}
use Rattle.manifest_tree.specs.Names.{Inode, Names, nothing, leaf, subdirectory, source, no_bytes}
use Rattle.manifest_tree.specs.Lists.{IsName}
use Rattle.cramfs_format.specs.Tree.{precedes}
use Rattle.cramfs_layout.specs.Layout.{size_of, kept, data_of, list_len}
use Rattle.cramfs_layout.specs.Wells.{IsFile, IsDirectory}
use Rattle.cramfs_layout.specs.Planned.{IsPlanned}

directory : ℕ → Inode
directory line = record {
  line = line;
  kind = Directory;
  mode = 493;
  uid = 0;
  gid = 0;
  major = 0;
  minor = 0;
  align = 4;
  size = 0;
  fill = no_bytes;
}

file : Inode
file = record {
  line = 1;
  kind = Regular;
  mode = 420;
  uid = 0;
  gid = 0;
  major = 0;
  minor = 0;
  align = 4;
  size = 5;
  fill = source 0;
}

no_slash : (x : ℕ) → x ≢ 47 → Contains {X = ℕ} (x ∷ []) 47 → ⊥
no_slash x n (zero, k, e) = n e
no_slash x n (suc i, k, e) = absurd (omega arith)

is_name : (x : ℕ) → x ≢ 0 → x ≢ 47 → IsName (x ∷ [])
is_name x z n = record { named = omega arith; short = omega arith; no_zero = (z, tt); no_slash = no_slash x n }

is_directory : (line : ℕ) (own : Names) → list_len own < 2 ^ 24 → IsDirectory (directory line) own
unfolding directory
is_directory line own small = record {
  kind = refl;
  mode = omega arith;
  owner = (omega arith, omega arith);
  numbers = (refl, refl);
  bytes = refl;
  small = small;
}

is_file : IsFile (codes "hello" ∷ []) file
unfolding file
is_file = record {
  kind = (refl, refl);
  mode = omega arith;
  owner = (omega arith, omega arith);
  bytes = refl;
  small = omega arith;
  fours = 1;
  some = omega arith;
  aligned = refl;
}

same : Inode
same = record {
  line = 3;
  kind = Regular;
  mode = 420;
  uid = 0;
  gid = 0;
  major = 0;
  minor = 0;
  align = 4;
  size = 5;
  fill = source 0;
}

is_same : IsFile (codes "hello" ∷ []) same
unfolding same
is_same = record {
  kind = (refl, refl);
  mode = omega arith;
  owner = (omega arith, omega arith);
  bytes = refl;
  small = omega arith;
  fours = 1;
  some = omega arith;
  aligned = refl;
}

planned : IsPlanned (codes "vol") (directory 0)
    (leaf (codes "a") file (subdirectory (codes "d") (directory 2) (leaf (codes "c") same nothing) nothing))
    (codes "hello" ∷ [])
unfolding directory file same size_of kept data_of
planned = record {
  short = omega arith;
  directory = is_directory 0 (leaf (codes "a") file
      (subdirectory (codes "d") (directory 2) (leaf (codes "c") same nothing) nothing)) (omega arith);
  well = (
    (
      record {
        written = is_name 97 (λ z. absurd (omega (arith, z))) (λ z. absurd (omega (arith, z)));
        no_dots = refl;
        alone = λ z. elim z [
          | inl e ↦ let x : 97
              ≡ 100 = ap (λ (l : List ℕ). get_or l 0 0) e in absurd (omega (arith, x))
          | inr e ↦ e
        ];
      },
      omega arith,
      λ m z. elim z [ inl e ↦ subst (λ (l : List ℕ). precedes (97 ∷ []) l ≡ true) (sym e) refl | inr e ↦ absurd e ],
    ),
    is_file,
    (
      (
        record {
          written = is_name 100 (λ z. absurd (omega (arith, z))) (λ z. absurd (omega (arith, z)));
          no_dots = refl;
          alone = λ z. z;
        },
        omega arith,
        λ m z. absurd z,
      ),
      is_directory 2 (leaf (codes "c") same nothing) (omega arith),
      (
        (
          record {
            written = is_name 99 (λ z. absurd (omega (arith, z))) (λ z. absurd (omega (arith, z)));
            no_dots = refl;
            alone = λ z. z;
          },
          omega arith,
          λ m z. absurd z,
        ),
        is_same,
        tt,
      ),
      tt,
    ),
  );
  lines = (
    (λ z. absurd (omega (arith, z)), (λ z. absurd (omega (arith, z)), (λ z. absurd (omega (arith, z)), tt))),
    (
      (λ z. absurd (omega (arith, z)), (λ z. absurd (omega (arith, z)), tt)),
      ((λ z. absurd (omega (arith, z)), tt), (tt, tt)),
    ),
  );
  room = omega arith;
  few = omega arith;
  shallow = omega arith;
}
