-- What is asked of a volume can be met: a file of five bytes, and a directory with a further name of it.
use Rattle.std.proofs.Common.{◌≡◌, ◌≢◌, ℕ, zero, suc, List, [], ◌∷◌, codes, ap, get_or, refl, arith, rules, inl, inr}
use Rattle.std.specs.List.{Contains}
use Rattle.rom_tree.specs.declared.types.Kind.TheVariants.{Directory, Regular}
use Rattle.manifest_tree.specs.Names.{Inode, nothing, leaf, link, subdirectory, source, no_bytes}
use Rattle.manifest_tree.specs.Lists.{IsName}
use Rattle.romfs_layout.specs.Layout.{data_align, place_of}
use Rattle.romfs_layout.specs.Wells.{IsFile, IsDirectory}
use Rattle.romfs_layout.specs.Planned.{IsPlanned}

directory : ℕ → Inode
directory line = record {
  line = line;
  kind = Directory;
  mode = 493;
  uid = 0;
  gid = 0;
  major = 0;
  minor = 0;
  align = 4;
  size = 0;
  fill = no_bytes;
}

file : Inode
file = record {
  line = 1;
  kind = Regular;
  mode = 420;
  uid = 0;
  gid = 0;
  major = 0;
  minor = 0;
  align = 4;
  size = 5;
  fill = source 0;
}

no_slash : (x : ℕ) → x ≢ 47 → Contains {X = ℕ} (x ∷ []) 47 → ⊥
no_slash x n (zero, k, e) = n e
no_slash x n (suc i, k, e) = absurd (omega arith)

is_name : (x : ℕ) → x ≢ 0 → x ≢ 47 → IsName (x ∷ [])
is_name x z n = record { named = omega arith; short = omega arith; no_zero = (z, tt); no_slash = no_slash x n }

is_directory : (line : ℕ) → IsDirectory (directory line)
unfolding directory
is_directory line = record { kind = refl; mode = refl; owner = (refl, refl); numbers = (refl, refl); bytes = refl }

is_file : IsFile (codes "hello" ∷ []) file
unfolding file data_align
is_file = record {
  kind = (refl, refl);
  mode = refl;
  owner = (refl, refl);
  bytes = refl;
  sixteens = 1;
  some = omega arith;
  aligned = refl;
  times = 4;
  of_align = refl;
}

planned : IsPlanned (codes "vol") (directory 0)
    (leaf (codes "a") file (subdirectory (codes "d") (directory 2) (link (codes "c") file nothing) nothing))
    (codes "hello" ∷ [])
unfolding directory file place_of data_align
planned = record {
  short = omega arith;
  no_zero = search rules;
  directory = is_directory 0;
  well = (
    record {
      written = is_name 97 (λ z. absurd (omega (arith, z))) (λ z. absurd (omega (arith, z)));
      no_dots = refl;
      alone = λ z. elim z [
        | inl e ↦ let x : 97
            ≡ 100 = ap (λ (l : List ℕ). get_or l 0 0) e in absurd (omega (arith, x))
        | inr e ↦ e
      ];
    },
    is_file,
    (
      record {
        written = is_name 100 (λ z. absurd (omega (arith, z))) (λ z. absurd (omega (arith, z)));
        no_dots = refl;
        alone = λ z. z;
      },
      is_directory 2,
      (
        record {
          written = is_name 99 (λ z. absurd (omega (arith, z))) (λ z. absurd (omega (arith, z)));
          no_dots = refl;
          alone = λ z. z;
        },
        is_file,
        tt,
      ),
      tt,
    ),
  );
  lines = (
    (λ z. absurd (omega (arith, z)), (λ z. absurd (omega (arith, z)), tt)),
    ((λ z. absurd (omega (arith, z)), tt), (tt, tt)),
  );
  links = ((refl, tt), tt);
  room = omega arith;
  few = omega arith;
  shallow = omega arith;
}
