use Rattle.headline.proofs.InRomfs.{file_at, mapped}
use Rattle.headline.proofs.in_place.romfs_is_mapped.Goals as goal

pub returns : goal.returns
returns c = λ bytes most deepest t f h small held x i regular short.
    mapped bytes f x (file_at bytes most deepest t x h small i) held short
