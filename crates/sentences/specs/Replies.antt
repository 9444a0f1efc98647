-- Why a line is refused, by the text of the reply. (This project's own.)
use Rattle.std.specs.Prelude.{ℕ, List, Option, Some, None, if◌then◌else◌, codes}
use Rattle.std.specs.Str.{bytes_eq}

-- the sentence of a refused call
abbrev pub call_sentence : List ℕ → Option (List ℕ)
call_sentence text =
    if bytes_eq text (codes "ENOENT") then
    Some (codes "no file has this path")
    else (if bytes_eq text (codes "ENOTDIR") then
    Some (codes "a directory is needed here, and this is another kind of file")
    else (if bytes_eq text (codes "ELOOP") then
    Some (codes "more than 40 symbolic links are on the way")
    else (if bytes_eq text (codes "ENAMETOOLONG") then
    Some (codes "the path has more than 4,095 bytes, or a name in it more than 255")
    else (if bytes_eq text (codes "EINVAL") then
    Some (codes "the path has no slash in front, the file has another kind, the range is empty or past the end, or the image is not mounted")
    else (if bytes_eq text (codes "EBADF") then
    Some (codes "this descriptor is not open")
    else (if bytes_eq text (codes "EISDIR") then
    Some (codes "it is a directory, which has no bytes")
    else (if bytes_eq text (codes "ENXIO") then
    Some (codes "only directories and regular files can be opened")
    else (if bytes_eq text (codes "EMFILE") then
    Some (codes "64 files are open, which is the most")
    else (if bytes_eq text (codes "ERANGE") then
    Some (codes "the bytes do not follow one another in the image")
    else (if bytes_eq text (codes "ENODEV") then
    Some (codes "no image has this number")
    else (if bytes_eq text (codes "EBUSY") then
    Some (codes "the image or the directory is in use by a mount")
    else None)))))))))))

-- the sentence of a line that is not a request
abbrev pub line_sentence : List ℕ → Option (List ℕ)
line_sentence text =
    if bytes_eq text (codes "bad command") then
    Some (codes "the first word is not a command")
    else (if bytes_eq text (codes "bad line") then
    Some (codes "too few or too many words, an empty word, or a line of over 8,191 bytes")
    else (if bytes_eq text (codes "bad number") then
    Some (codes "a number is not decimal or not below 2^32, or a read asks for more than 4096 bytes")
    else (if bytes_eq text (codes "bad session") then
    Some (codes "the line does not begin with a session, 0 to 7, and a space")
    else None)))
