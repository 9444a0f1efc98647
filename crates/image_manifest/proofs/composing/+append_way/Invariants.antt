use Rattle.image_manifest.proofs.composing.+append_way.Given as goal

abbrev pub decreases-append_way : goal.decreases-append_way
decreases-append_way l = l.index
