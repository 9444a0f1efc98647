-- Why this program refuses a file. (This project's own.)
use Rattle.std.specs.Prelude.{ℕ, List, codes}
use Rattle.system_files.specs.declared.reason.Reason.{Reason}
use Rattle.system_files.specs.declared.reason.Reason.TheVariants as reason

-- the sentence of a reason
abbrev pub reason_sentence : Reason → List ℕ
reason_sentence reason.NotRegular =
    codes "it is not a regular file"
reason_sentence reason.NotADirectory =
    codes "it is not a directory"
reason_sentence reason.SourceLink =
    codes "it is a symbolic link, and --no-follow refuses these"
reason_sentence reason.SourceChanged =
    codes "it changed while it was read"
reason_sentence reason.SourceUnread =
    codes "it could not be read, or its length is not the length that the system reported"
reason_sentence reason.ManifestTooLong =
    codes "a manifest has at most 2^30 bytes"
reason_sentence reason.LineTooLong =
    codes "a line of it has more than 2^20 bytes, so it is no manifest"
reason_sentence reason.NoMaxSize =
    codes "ROMTOOL_MAX_SIZE is no number of bytes, such as 4096, 64K, 2M, 1G or 0x10000"
reason_sentence reason.Whiteout =
    codes "it is a whiteout of overlayfs (device 0:0); scan the mounted overlay instead"
reason_sentence reason.NoKind =
    codes "it is of a kind that no manifest has"
reason_sentence reason.ForeignName =
    codes "a name in it is not UTF-8; ls -b shows it"
reason_sentence reason.ForeignLink =
    codes "the text of the link is not UTF-8; readlink shows it"
reason_sentence reason.ScanChanged =
    codes "it changed while it was scanned"
reason_sentence reason.Faked =
    codes "fakeroot or pseudo is in the environment and does not reach this program (it is static, or LD_PRELOAD is lost), so owners and devices would be wrong"
reason_sentence reason.Replaced =
    codes "another file took its name meanwhile"
reason_sentence reason.TooManyLinks =
    codes "more than 40 symbolic links follow one another"
reason_sentence reason.LinkToOutput =
    codes "another user made a link to it, or may replace one: name the file itself"
reason_sentence reason.OutputOfAnother =
    codes "another user made it, in a directory like /tmp; remove it first"
reason_sentence reason.HundredParts =
    codes "a hundred parts, .NAME.romtool-0.part and so on, are beside it; remove old ones"
reason_sentence reason.Mounted =
    codes "a file system on it, or on a partition of it, is mounted: unmount it"
reason_sentence reason.Swapped =
    codes "it, or a partition of it, is used as swap space: run swapoff first"
reason_sentence reason.NotEmpty =
    codes "it is not empty"
reason_sentence reason.OfAnotherUser =
    codes "it is owned by another user, who could change what is made in it"
reason_sentence reason.OpenToOthers =
    codes "other users may write in it, and could replace what is made in it"
reason_sentence reason.LinkOfAnother =
    codes "it is a link that another user made or may replace: name the directory itself"
reason_sentence reason.ProbeLeft =
    codes "the file .romtool-probe in it could not be removed: remove it"
reason_sentence reason.NameUnfit =
    codes "a name has at most 255 bytes here, and a whole path 4095"
reason_sentence reason.NoText =
    codes "a name that is not UTF-8 cannot be opened"
reason_sentence reason.LinkUnfit =
    codes "its text is empty or not UTF-8, or has a zero byte or over 4095 bytes"
reason_sentence reason.FileNotTaken =
    codes "not all of the file could be written"
