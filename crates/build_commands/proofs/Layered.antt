-- Why files of a list cannot be laid over others.
use Rattle.std.proofs.Common.{◌++◌, ℕ, List, inl, inr, refl, map}
use Rattle.build_commands.specs.Devices as list
use Rattle.build_commands.specs.DeviceTable as table
use Rattle.build_commands.specs.Laying.{AreByLine, IsListRefusal, IsTableRefusal, made, of_list, of_overlay}
use Rattle.build_commands.specs.Laying.{of_rights}
use Rattle.build_commands.specs.Overlay.{AreLaid, IsRefused}
use Rattle.build_commands.specs.Rights.{IsRefusal, changed}
use Rattle.build_commands.specs.declared.inventory.NamedFile.{NamedFile}
use Rattle.build_commands.specs.declared.listing.ListError.{ListError}
use Rattle.build_commands.specs.declared.listing.ListError.TheVariants as listed
use Rattle.build_commands.specs.declared.listing.Listing.{Listing}
use Rattle.build_commands.specs.declared.overlay.OverlayError.{OverlayError}
use Rattle.build_commands.specs.declared.overlay.OverlayError.TheVariants as overlay
use Rattle.build_commands.specs.declared.rights.Change.{Change}
use Rattle.build_commands.specs.declared.rights.RightsError.{RightsError}
use Rattle.build_commands.specs.declared.rights.RightsError.TheVariants as rights

pub list_refused : (found : List NamedFile) (text : List ℕ) (e : ListError) → list.IsRefusal found text e
    → IsListRefusal found text (of_list e)
list_refused found text listed.OutOfMemory r = tt
list_refused found text (listed.Bad b) r = inl r

pub table_refused : (found : List NamedFile) (text : List ℕ) (e : ListError) → table.IsRefusal found text e
    → IsTableRefusal found text (of_list e)
table_refused found text listed.OutOfMemory r = tt
table_refused found text (listed.Bad b) r = inl r

pub list_mixed : (found : List NamedFile) (text : List ℕ) (l : Listing) (e : OverlayError) → list.IsListed found text l
    → IsRefused (found ++ made found l.files.items) e → IsListRefusal found text (of_overlay e)
list_mixed found text l overlay.OutOfMemory says r = tt
list_mixed found text l (overlay.Kinds f) says r = record { listing = l; says = says; mixed = r }

pub table_mixed : (found : List NamedFile) (text : List ℕ) (l : Listing) (e : OverlayError)
    → table.IsListed found text l → IsRefused (map (changed found l.changes.items) found ++ l.files.items) e
    → IsTableRefusal found text (of_overlay e)
table_mixed found text l overlay.OutOfMemory says r = tt
table_mixed found text l (overlay.Kinds f) says r = record { listing = l; says = says; mixed = r }

pub list_missing : (found : List NamedFile) (text : List ℕ) (l : Listing) (cs : List Change) (all : List NamedFile)
    (e : RightsError) → list.IsListed found text l → AreByLine found l cs
    → AreLaid (found ++ made found l.files.items) all → IsRefusal all cs e → IsListRefusal found text (of_rights e)
list_missing found text l cs all rights.OutOfMemory says by over r = tt
list_missing found text l cs all (rights.Missing n) says by over r =
    inr (record {
      listing = l;
      says = says;
      changes = cs;
      by_line = by;
      all = all;
      over = over;
      missing = r;
      is = refl;
    })

pub table_missing : (found : List NamedFile) (text : List ℕ) (l : Listing) (e : RightsError)
    → table.IsListed found text l → IsRefusal found l.changes.items e → IsTableRefusal found text (of_rights e)
table_missing found text l rights.OutOfMemory says r = tt
table_missing found text l (rights.Missing n) says r =
    inr (record { listing = l; says = says; missing = r; is = refl })
