-- Why Linux misreads something in an image, by its number. (This project's own.)
use Rattle.std.specs.Prelude.{ℕ, List, ◌==◌, if◌then◌else◌, codes}

-- the sentence of what is misread
abbrev pub misread_sentence : ℕ → List ℕ
misread_sentence n =
    if n == 0 then
    codes "no line makes a file, so the image has only an empty root; did the scan fail?"
    else (if n == 1 then
    codes "Linux reads the last 4,096 bytes of a file as zeros if its length is a multiple of 4,096; append a byte to the source (truncate -s +1 FILE)"
    else (if n == 2 then
    codes "Linux shows files that share contents with the mode and the owner of one of them; write a file line with the source instead of same"
    else (if n == 3 then
    codes "Linux lists only 127 bytes of a name that has 128; shorten it"
    else (if n == 4 then
    codes "Linux finds no name of more than 128 bytes in romfs; shorten it"
    else (if n == 5 then
    codes "Linux finds no root after a volume name of more than 143 bytes; shorten it"
    else (if n == 6 then
    codes "Linux keeps no major number above 4095 in romfs, and none above 255 in cramfs; use a lower number"
    else (if n == 7 then
    codes "Linux lists but does not find a name with more padding than it needs; build the image with romtool"
    else (if n == 8 then
    codes "Linux ends the text of a link before its first zero byte; build the image with romtool"
    else (if n == 9 then
    codes "Linux adds 0555 to the mode of the root in cramfs; set these bits in the line dir /"
    else (if n == 10 then
    codes "Linux reads a hard link's bytes from a wrong offset if the file's own name has more than 143 bytes; shorten that name"
    else codes "Linux misreads it"))))))))))
