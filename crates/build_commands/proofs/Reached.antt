-- The nodes that the paths of found files lead to.
use Rattle.std.proofs.Common.{◌≡◌, ◌≢◌, ℕ, Bool, true, false, cond, List, [], ◌∷◌, ◌++◌, reverse, Option, None}
use Rattle.std.proofs.Common.{Some, refl, sym, ap, subst, ◌∙◌, ◌⊎◌, inl, inr}
use Rattle.std.specs.Prelude.{IsSomeAnd, min}
use Rattle.std.specs.Cmp.Lexicographic.{bytes_decides}
use Rattle.std.specs.List.{AllByRecursion as Every, Contains}
use Rattle.std.specs.Option.{is_some, option_map}
use Rattle.std.specs.Str.{bytes_eq}
use Rattle.formats.specs.declared.format.Format.{Format}
use Rattle.formats.specs.declared.format.Format.TheVariants.{Romfs, Cramfs, CramfsBig}
use Rattle.rom_tree.specs.Tree.{Node, ino_of}
use Rattle.rom_tree.specs.declared.types.Kind.TheVariants as node_kind
use Rattle.manifest.specs.declared.line.Line.{Line}
use Rattle.manifest.specs.declared.line.Word.TheVariants.{File}
use Rattle.manifest.specs.Grammar.{fault_of}
use Rattle.manifest.specs.Lines.{filed, is_hard, led, line_at}
use Rattle.manifest.specs.Paths.{names_of}
use Rattle.manifest.specs.Printed.{AreTaken, as_read, first_number, numbered, numbered_from}
use Rattle.manifest_tree.specs.Meant.{IsMeant}
use Rattle.manifest_tree.specs.Shape.{Value, file_value, node_under, node_value}
use Rattle.manifest_tree.specs.Tree.{file_at, file_named, inode_of, with_contents}
use Rattle.build_commands.specs.Inventory.{first_link, fitted, found_line, hard_line, has_hard_links}
use Rattle.build_commands.specs.Inventory.{line_by, lines_found, name_line, path_of, plain_line, same_line}
use Rattle.build_commands.specs.Nearest.{romfs_mode}
use Rattle.build_commands.specs.Reported.{AreOfOne, AreReportedAlike, Report, fitted_report, kind_named, major_of}
use Rattle.build_commands.specs.Reported.{minor_of, node_report, report_of, target_of, word_for}
use Rattle.build_commands.specs.declared.inventory.FileKind.{FileKind}
use Rattle.build_commands.specs.declared.inventory.FileKind.TheVariants as kind
use Rattle.build_commands.specs.declared.inventory.NamedFile.{NamedFile}
use Rattle.build_commands.proofs.Contained.{all_kept, every_at, first_among, link_every, members, one_line}
use Rattle.build_commands.proofs.Filed.{all_has}
use Rattle.build_commands.proofs.Meant.{all_reversed, other_path, same_path}
use Rattle.build_commands.proofs.Meant.{taken_after}
use Rattle.build_commands.proofs.Reported.{HasPath, named_at, none_some, of_node, some_same, value_report}

-- ---- the lines of a file

-- the line with another mode, owner and group
abbrev given : Line → ℕ → ℕ → ℕ → Line
given l m u g = record l { mode = m; uid = u; gid = g }

-- what was reported of a file of this kind, with another mode, owner and group
abbrev report_with : FileKind → ℕ → ℕ → ℕ → Report
report_with d m u g = record {
  kind = kind_named d;
  mode = m;
  uid = u;
  gid = g;
  major = major_of d;
  minor = minor_of d;
  target = target_of d;
}

-- romfs has the same modes for the line's word as for a file of this kind
abbrev HasModes : FileKind → Line → Type 0
HasModes d l = (m : ℕ) → romfs_mode l.word m ≡ romfs_mode (word_for (kind_named d)) m

-- whichever mode, owner and group the line gets, it makes a file of this kind with them
abbrev MakesAny : FileKind → Line → Type 0
MakesAny d l = (m u g n : ℕ) (contents : List (List ℕ)) (all : List Line) (sizes : List ℕ)
    → value_report (file_value contents (inode_of all sizes (numbered n (given l m u g)))) ≡ report_with d m u g

-- The line has the path, the mode, the owner and the group of f, and makes a file of this kind.
record IsOf (f : NamedFile) (d : FileKind) (l : Line) : Type 0 where
  path : l.path ≡ path_of f
  own : is_hard l.word ≡ false
  was : given l f.mode f.uid f.gid ≡ l
  modes : HasModes d l
  makes : MakesAny d l

its : {f : NamedFile} {d : FileKind} {l : Line} → l.path ≡ path_of f → is_hard l.word ≡ false
    → given l f.mode f.uid f.gid ≡ l → HasModes d l → MakesAny d l → IsOf f d l
its p o w s h = record { path = p; own = o; was = w; modes = s; makes = h }

of_contents : (l : Line) (contents : List (List ℕ)) (all : List Line) (sizes : List ℕ) (o : Option Line)
    → value_report (file_value contents (with_contents all sizes l o))
    ≡ record (report_with kind.Regular l.mode l.uid l.gid) { major = l.major; minor = l.minor }
unfolding file_value
of_contents l contents all sizes None = refl
of_contents l contents all sizes (Some x) = refl

module _ (f : NamedFile) where
  by_kind : (d : FileKind) → IsOf f d (line_by d f (plain_line f))
  unfolding file_value inode_of
  by_kind kind.Directory = its refl refl refl (λ m. refl) (λ m u g n c a s. refl)
  by_kind kind.Regular = its refl refl refl (λ m. refl)
      (λ m u g n c a s. of_contents (numbered n (given (line_by kind.Regular f (plain_line f)) m u g)) c a s
      (filed (reverse a) (path_of f)))
  by_kind (kind.Symlink t) = its refl refl refl (λ m. refl) (λ m u g n c a s. refl)
  by_kind (kind.Block b) = its refl refl refl (λ m. refl) (λ m u g n c a s. refl)
  by_kind (kind.Character b) = its refl refl refl (λ m. refl) (λ m u g n c a s. refl)
  by_kind kind.Fifo = its refl refl refl (λ m. refl) (λ m u g n c a s. refl)
  by_kind kind.Socket = its refl refl refl (λ m. refl) (λ m u g n c a s. refl)

  -- a `same` line of a regular file, and any other line
  same_of : (old : List ℕ) (d : FileKind)
      → IsOf f d (same_line (line_by d f (plain_line f)).word (line_by d f (plain_line f)) old)
  unfolding file_value inode_of
  same_of old kind.Regular = its refl refl refl (λ m. refl)
      (λ m u g n c a s. of_contents
      (numbered n (given (same_line File (line_by kind.Regular f (plain_line f)) old) m u g)) c a s
      (filed (reverse a) (path_of f)))
  same_of old kind.Directory = by_kind kind.Directory
  same_of old (kind.Symlink t) = by_kind (kind.Symlink t)
  same_of old (kind.Block b) = by_kind (kind.Block b)
  same_of old (kind.Character b) = by_kind (kind.Character b)
  same_of old kind.Fifo = by_kind kind.Fifo
  same_of old kind.Socket = by_kind kind.Socket

  -- the line is a further name of the file at the path `old`
  record IsNamed (old : List ℕ) (l : Line) : Type 0 where
    path : l.path ≡ path_of f
    further : is_hard l.word ≡ true
    text : l.text ≡ old

  -- the line of a directory, or a further name
  hard_of : (old : List ℕ) (d : FileKind)
      → (IsOf f d (hard_line (line_by d f (plain_line f)).word (line_by d f (plain_line f)) old)
      × (kind_named d ≡ node_kind.Directory))
      ⊎ IsNamed old (hard_line (line_by d f (plain_line f)).word (line_by d f (plain_line f)) old)
  hard_of old kind.Directory = inl (by_kind kind.Directory, refl)
  hard_of old kind.Regular = inr (record { path = refl; further = refl; text = refl })
  hard_of old (kind.Symlink t) = inr (record { path = refl; further = refl; text = refl })
  hard_of old (kind.Block b) = inr (record { path = refl; further = refl; text = refl })
  hard_of old (kind.Character b) = inr (record { path = refl; further = refl; text = refl })
  hard_of old kind.Fifo = inr (record { path = refl; further = refl; text = refl })
  hard_of old kind.Socket = inr (record { path = refl; further = refl; text = refl })

-- the same path, word and text
record IsLike (k l : Line) : Type 0 where
  path : k.path ≡ l.path
  word : k.word ≡ l.word
  text : k.text ≡ l.text

fitted_like : (o : Option Format) (l : Line) → IsLike (fitted o l) l
fitted_like None l = record { path = refl; word = refl; text = refl }
fitted_like (Some Romfs) l = record { path = refl; word = refl; text = refl }
fitted_like (Some Cramfs) l = record { path = refl; word = refl; text = refl }
fitted_like (Some CramfsBig) l = record { path = refl; word = refl; text = refl }

-- the line makes a file with what is reported of f, as far as the format can hold it
abbrev Makes : Option Format → NamedFile → Line → Type 0
Makes o f l = (contents : List (List ℕ)) (all : List Line) (sizes : List ℕ)
    → value_report (file_value contents (inode_of all sizes l)) ≡ fitted_report o (report_of f)

fitted_makes : (o : Option Format) (f : NamedFile) (l : Line) (n : ℕ) → IsOf f f.kind l
    → Makes o f (numbered n (fitted o l))
fitted_makes o f l n s contents all sizes =
    subst (λ (k : Line). value_report (file_value contents (inode_of all sizes (numbered n (fitted o k))))
    ≡ fitted_report o (report_of f)) s.was (by o)
  where
    by : (o : Option Format)
        → value_report (file_value contents (inode_of all sizes (numbered n (fitted o (given l f.mode f.uid f.gid)))))
        ≡ fitted_report o (report_of f)
    by None = s.makes f.mode f.uid f.gid n contents all sizes
    by (Some Romfs) = s.makes (romfs_mode l.word f.mode) 0 0 n contents all sizes
        ∙ ap (λ (m : ℕ). report_with f.kind m 0 0) (s.modes f.mode)
    by (Some Cramfs) = s.makes f.mode (min f.uid 65535) (min f.gid 255) n contents all sizes
    by (Some CramfsBig) = s.makes f.mode (min f.uid 65535) (min f.gid 255) n contents all sizes

-- A line of f by itself makes what is reported of f.
record IsOwn (o : Option Format) (f : NamedFile) (l : Line) : Type 0 where
  path : l.path ≡ path_of f
  own : is_hard l.word ≡ false
  makes : (n : ℕ) → Makes o f (numbered n l)

fitted_own : (o : Option Format) (f : NamedFile) (l : Line) → IsOf f f.kind l → IsOwn o f (fitted o l)
fitted_own o f l s =
    let e = fitted_like o l in
    record {
      path = e.path ∙ s.path;
      own = ap is_hard e.word ∙ s.own;
      makes = λ n. fitted_makes o f l n s;
    }

-- a further name has a line of its own, or is a name of the file at the path of the first one
further_name : (o : Option Format) (f g : NamedFile)
    → (IsOwn o f (name_line o (Some g) f)
    × (has_hard_links o ≡ true → kind_named f.kind ≢ node_kind.Directory → ⊥))
    ⊎ IsNamed f (path_of g) (name_line o (Some g) f)
further_name o f g = by (has_hard_links o) refl
  where
    by : (b : Bool) → has_hard_links o ≡ b
        → (IsOwn o f (fitted o (cond b (hard_line (found_line f).word (found_line f) (path_of g))
        (same_line (found_line f).word (found_line f) (path_of g))))
        × (b ≡ true → kind_named f.kind ≢ node_kind.Directory → ⊥))
        ⊎ IsNamed f (path_of g) (fitted o (cond b (hard_line (found_line f).word (found_line f) (path_of g))
        (same_line (found_line f).word (found_line f) (path_of g))))
    by false e = inl (fitted_own o f _ (same_of f (path_of g) f.kind), λ h n. absurd (cc))
    by true e = elim (hard_of f (path_of g) f.kind) [
      | inl s ↦ inl (fitted_own o f _ s.0, λ h n. n s.1)
      | inr s ↦ let k = fitted_like o (hard_line (found_line f).word (found_line f) (path_of g)) in
          inr (record { path = k.path ∙ s.path; further = ap is_hard k.word ∙ s.further; text = k.text ∙ s.text })
    ]

-- ---- what a path leads to

-- a line has the path
record IsThere (latest : List Line) (p : List ℕ) : Type 0 where
  path : HasPath p latest
  there : is_some (line_at latest p) ≡ true

led_there : (ls : List Line) (p : List ℕ) (x : Line) → led ls p ≡ Some x → IsThere ls p
led_there [] p x h = absurd (none_some x h)
led_there (l ∷ ls) p x h = by (λ g. led_there ls p x g) (bytes_eq l.path p) refl h
  where
    by : (led ls p ≡ Some x → IsThere ls p) → (b : Bool) → bytes_eq l.path p ≡ b
        → cond b (cond (is_hard l.word) (led ls l.text) (Some l)) (led ls p) ≡ Some x → IsThere (l ∷ ls) p
    by rest true e g = record { path = inl ((bytes_decides l.path p).0 e); there = rw e refl }
    by rest false e g = let r = rest g in record { path = inr r.path; there = rw e r.there }

led_kept : (latest : List Line) (n : ℕ) (l : Line) (p : List ℕ) (x : Line) → fault_of latest (numbered n l) ≡ None
    → led latest p ≡ Some x → led (numbered n l ∷ latest) p ≡ Some x
led_kept latest n l p x f h = rw (other_path latest n l p f (led_there latest p x h).there) h

own_leads : (o : Option Format) (f : NamedFile) (l : Line) (n : ℕ) (latest : List Line) → IsOwn o f l
    → led (numbered n l ∷ latest) (path_of f) ≡ Some (numbered n l)
own_leads o f l n latest s =
    subst (λ (p : List ℕ). led (numbered n l ∷ latest) p ≡ Some (numbered n l)) s.path
    (rw (same_path l.path, s.own) refl)

further_leads : (f : NamedFile) (old : List ℕ) (l : Line) (n : ℕ) (latest : List Line) → IsNamed f old l
    → led (numbered n l ∷ latest) (path_of f) ≡ led latest old
further_leads f old l n latest s =
    subst (λ (p : List ℕ). led (numbered n l ∷ latest) p ≡ led latest old) s.path
    (rw (same_path l.path, s.further) (ap (led latest) s.text))

-- The path of f leads to a line that makes what is reported of f. The path of the file's first name leads to the same
-- line, if the format has further names and f is no directory.
record IsReached (o : Option Format) (found : List NamedFile) (latest : List Line) (f : NamedFile) : Type 0 where
  line : Line
  leads : led latest (path_of f) ≡ Some line
  makes : AreReportedAlike found → Makes o f line
  first : has_hard_links o ≡ true → kind_named f.kind ≢ node_kind.Directory
      → (h : NamedFile) → first_link f found ≡ Some h → led latest (path_of h) ≡ Some line

module _ (found : List NamedFile) (o : Option Format) where
  abbrev IsGood : List Line → NamedFile → Type 0
  IsGood latest f = Contains found f × IsReached o found latest f

  still_good : (latest : List Line) (n : ℕ) (l : Line) → fault_of latest (numbered n l) ≡ None
      → (f : NamedFile) → IsGood latest f → IsGood (numbered n l ∷ latest) f
  still_good latest n l e f g = (
    g.0,
    record {
      line = g.1.line;
      leads = led_kept latest n l (path_of f) g.1.line e g.1.leads;
      makes = g.1.makes;
      first = λ t d h k. led_kept latest n l (path_of h) g.1.line e (g.1.first t d h k);
    },
  )

  next_good : (b : List NamedFile) (f : NamedFile) (a : List NamedFile) (latest : List Line) (n : ℕ)
      → found ≡ b ++ f ∷ a → Every (IsGood latest) b → Contains found f
      → fault_of latest (numbered n (name_line o (first_link f b) f)) ≡ None
      → IsGood (numbered n (name_line o (first_link f b) f) ∷ latest) f
  next_good b f a latest n is every c fault = (c, by (first_link f b) refl fault)
    where
      by : (v : Option NamedFile) → first_link f b ≡ v → fault_of latest (numbered n (name_line o v f)) ≡ None
          → IsReached o found (numbered n (name_line o v f) ∷ latest) f
      by None e fault =
          let s = fitted_own o f (found_line f) (by_kind f f.kind) in
          let l = own_leads o f (name_line o None f) n latest s in
          record {
            line = numbered n (name_line o None f);
            leads = l;
            makes = λ alike. s.makes n;
            first = λ t d. first_among _ found b a f None is e l;
          }
      by (Some g) e fault = elim (further_name o f g) [
        | inl s ↦ record {
          line = numbered n (name_line o (Some g) f);
          leads = own_leads o f (name_line o (Some g) f) n latest s.0;
          makes = λ alike. s.0.makes n;
          first = λ t d. absurd (s.1 t d);
        }
        | inr s ↦
            let r = link_every (IsGood latest) f g b every e in
            record {
              line = r.0.1.line;
              leads = further_leads f (path_of g) (name_line o (Some g) f) n latest s ∙ r.0.1.leads;
              makes = λ alike contents all sizes. r.0.1.makes alike contents all sizes
                  ∙ ap (fitted_report o) (sym (alike f g c r.0.0 r.1));
              first = λ t d. first_among _ found b a f (Some g) is e
                  (led_kept latest n (name_line o (Some g) f) (path_of g) r.0.1.line fault r.0.1.leads);
            }
      ]

-- ---- the nodes

module _ (format : Option Format) (found : List NamedFile) (volume image : List ℕ) (t : Node)
    (contents : List (List ℕ)) (sizes : List ℕ) (taken : AreTaken [] (first_number volume) (lines_found format found))
    (meant : IsMeant image t contents (as_read volume (lines_found format found)) sizes) where
  abbrev all : List Line
  all = numbered_from (first_number volume) (lines_found format found)

  abbrev latest : List Line
  latest = taken_after [] (first_number volume) (lines_found format found)

  reached : (f : NamedFile) → Contains found f → IsReached format found latest f
  reached f c = (every_at (IsGood found format latest) found f
      (all_kept format found (IsGood found format) (still_good found format) (next_good found format)
      [] found [] (first_number volume) refl tt (members [] found) taken) c).1

  -- the names of the path lead to the file of its line
  named_file : (p : List ℕ) (q : List (List ℕ)) (l : Line) → names_of p ≡ Some q → led latest p ≡ Some l
      → file_named all sizes q ≡ Some (inode_of all sizes l)
  unfolding file_at
  named_file p q l e h = named_at all sizes p q _ e
      (all_has (λ (x : Line). x.path ≡ p) (first_number volume) (lines_found format found)
      (led_there latest p l h).path)
      (ap (λ (v : List Line). option_map (inode_of all sizes) (led v p))
      (sym (all_reversed (first_number volume) (lines_found format found)))
      ∙ ap (option_map (inode_of all sizes)) h)

  pub reported : AreReportedAlike found → (f : NamedFile) (q : List (List ℕ)) → Contains found f
      → names_of (path_of f) ≡ Some q
      → IsSomeAnd (node_under q t) (λ x. node_report image x ≡ fitted_report format (report_of f))
  reported alike f q c e =
      let r = reached f c in
      by (node_under q t)
      (meant.values q ∙ ap (option_map (file_value contents)) (named_file (path_of f) q r.line e r.leads))
      (r.makes alike contents all sizes)
    where
      by : {v : Value} (o : Option Node) → option_map (node_value image) o ≡ Some v
          → value_report v ≡ fitted_report format (report_of f)
          → IsSomeAnd o (λ x. node_report image x ≡ fitted_report format (report_of f))
      by {v} None h r = absurd (none_some v h)
      by {v} (Some x) h r = of_node image x ∙ (ap value_report (some_same (node_value image x) v h) ∙ r)

  pub shared : has_hard_links format ≡ true → (f g : NamedFile) (p q : List (List ℕ)) (x y : Node)
      → Contains found f → Contains found g → AreOfOne f g
      → kind_named f.kind ≢ node_kind.Directory → kind_named g.kind ≢ node_kind.Directory
      → names_of (path_of f) ≡ Some p → names_of (path_of g) ≡ Some q
      → node_under p t ≡ Some x → node_under q t ≡ Some y → ino_of x ≡ ino_of y
  shared has f g p q x y cf cg o nf ng ep eq ex ey =
      let r = reached f cf in
      let s = reached g cg in
      let line : s.line ≡ r.line = sym (one_line (λ h. led latest (path_of h)) found f g _ _ cf o (r.first has nf)
      (s.first has ng)) in
      (meant.shared p q x y _ _ ex ey (named_file (path_of f) p r.line ep r.leads)
      (named_file (path_of g) q r.line eq (s.leads ∙ ap Some line))).1 refl
