-- What is made of the names of an image.
use Rattle.std.proofs.Common.{◌≡◌, ℕ, ◌<◌, Bool, List, length, refl, sym, ap, ◌∙◌, arith, subst, true}
use Rattle.std.specs.Prelude.{Result, Ok, Err, IfOk, IsSomeAnd, Option, Some, None}
use Rattle.rom_tree.specs.Image.{HasLink, Image}
use Rattle.rom_tree.specs.Tree.{Node, node, directory, regular, symlink, block, character, socket, fifo}
use Rattle.rom_tree.specs.Tree.{is_link, kind_of}
use Rattle.image_manifest.specs.Describable.{IsLawfulTree}
use Rattle.image_manifest.specs.Members.{AreMembers}
use Rattle.image_manifest.specs.declared.naming.Member.{Member}
use Rattle.image_manifest.specs.ExtractedKnown.{IsKnown}
use Rattle.image_manifest.specs.ExtractedMembers.{made_in, made_of, members_in}
use Rattle.image_manifest.specs.declared.giving.Giving.{Giving}
use Rattle.image_manifest.proofs.Extractable.{extractable}
use Rattle.image_manifest.proofs.Known.{many}
use Rattle.tree_extract.specs.Choices.{IsFit, all, kind_in, kinds_chosen, kinds_of, some}
use Rattle.tree_extract.specs.Extracted.{is_file}
use Rattle.tree_extract.specs.Members.{AreMembers as CanBeMade, kind_at}
use Rattle.tree_extract.specs.declared.tree.Kind.{Kind}
use Rattle.tree_extract.specs.declared.tree.Kind.TheVariants.{Further, Symlink}
use Rattle.tree_extract.proofs.Chosen.{can_with, choice_fits, kind_of_each, kind_with, length_kinds, length_with}

-- the giving makes no difference
any : Giving
any = record { owners = true; masked = 0 }

pub as_many_kinds : (m : Image) (ms : List Member) (ks : List Kind) → AreMembers m ms
    → ((g : Giving) → ks ≡ kinds_of (members_in g m)) → length ks ≡ length ms
as_many_kinds m ms ks are is = ap length (is any) ∙ length_kinds (members_in any m) ∙ sym (many any m ms are)

pub further_within : (m : Image) (ks : List Kind) → IsLawfulTree m.tree
    → ((g : Giving) → ks ≡ kinds_of (members_in g m)) → (i first : ℕ) → i < length ks → kind_in ks i ≡ Further first
    → first < length ks
further_within m ks lawful is i first h it =
    let can = extractable any m lawful in
    let long : length ks ≡ length (members_in any m) = ap length (is any) ∙ length_kinds (members_in any m) in
    let low : i < length (members_in any m) = omega (arith, h, long) in
    let r = can.further i first low
    (sym (kind_of_each (members_in any m) i low) ∙ ap (λ (v : List Kind). kind_in v i) (sym (is any)) ∙ it) in
    let below = r.0 in
    omega (arith, below, long)

pub if_ok : {A E : Type 0} (r : Result A E) (P Q : A → Type 0) → IfOk r P → ((a : A) → P a → Q a) → IfOk r Q
if_ok (Ok a) P Q h f = f a h
if_ok (Err e) P Q h f = tt

pub all_fit : (m : Image) (ks : List Kind) (g : Giving) → IsLawfulTree m.tree
    → ((g : Giving) → ks ≡ kinds_of (members_in g m)) → IsFit (members_in g m) ks
all_fit m ks g lawful is = choice_fits (members_in g m) ks (extractable g m lawful) (all (is g))

pub some_fit : (m : Image) (every ks : List Kind) (cs : List Bool) (g : Giving) → IsLawfulTree m.tree
    → ((g : Giving) → every ≡ kinds_of (members_in g m)) → ks ≡ kinds_chosen every cs → IsFit (members_in g m) ks
some_fit m every ks cs g lawful is made =
    choice_fits (members_in g m) ks (extractable g m lawful)
    (some cs (made ∙ ap (λ (v : List Kind). kinds_chosen v cs) (is g)))

pub can_be_made : (g : Giving) (m : Image) (ks : List Kind) → IsLawfulTree m.tree → IsFit (members_in g m) ks
    → CanBeMade (made_in g m ks)
can_be_made g m ks lawful fit = can_with (members_in g m) ks (extractable g m lawful) fit

-- ---- the tree of an image, of which some is made

module _ (g : Giving) (m : Image) (ms : List Member) (ks : List Kind) (are : AreMembers m ms)
    (fit : IsFit (members_in g m) ks) where
  pub in_all : (i : ℕ) → i < length (made_in g m ks) → i < length (members_in g m)
  in_all i h = let long = length_with (members_in g m) ks in omega (arith, long, h)

  pub in_members : (i : ℕ) → i < length (made_in g m ks) → i < length ms
  in_members i h =
      let long = length_with (members_in g m) ks in
      let all = many g m ms are in
      omega (arith, long, all, h)

  pub in_kinds : (i : ℕ) → i < length (made_in g m ks) → i < length ks
  in_kinds i h =
      let long = length_with (members_in g m) ks in
      let all = fit.many in
      omega (arith, long, all, h)

  pub many_made : length ms ≡ length (made_in g m ks)
  many_made = many g m ms are ∙ sym (length_with (members_in g m) ks)

  pub kind_is_made : (i : ℕ) → i < length (made_in g m ks) → kind_at (made_in g m ks) i ≡ kind_in ks i
  kind_is_made i h =
      kind_with (members_in g m) ks i fit.many (in_all i h)

  pub file_was : (i : ℕ) → i < length (made_in g m ks) → is_file (kind_at (made_in g m ks) i) ≡ true
      → is_file (kind_at (members_in g m) i) ≡ true
  file_was i h file =
      fit.file i (in_all i h) (ap is_file (sym (kind_is_made i h)) ∙ file)

  pub link_was : (i : ℕ) → i < length (made_in g m ks) → kind_at (made_in g m ks) i ≡ Symlink
      → kind_at (members_in g m) i ≡ Symlink
  link_was i h link = fit.link i (in_all i h) (sym (kind_is_made i h) ∙ link)

-- ---- links

link_node : (x : Node) (first : Option ℕ) → made_of (kind_of x) first ≡ Symlink → is_link x ≡ true
link_node (node a (directory es)) first is = absurd (cc)
link_node (node a (regular ps)) None is = absurd (cc)
link_node (node a (regular ps)) (Some i) is = absurd (cc)
link_node (node a (symlink ps)) first is = refl
link_node (node a block) first is = absurd (cc)
link_node (node a character) first is = absurd (cc)
link_node (node a socket) first is = absurd (cc)
link_node (node a fifo) first is = absurd (cc)

-- the node of a member that is made as a link is a link
pub has_link : (g : Giving) (m : Image) (i : ℕ) (x : Member) → IsKnown g m i x → kind_at (members_in g m) i ≡ Symlink
    → HasLink m x.node.0
has_link g m i x is link =
    subst (λ (o : Option Node). IsSomeAnd o (λ n. is_link n ≡ true)) (sym is.at)
    (link_node is.node x.first (sym is.kind ∙ link))
