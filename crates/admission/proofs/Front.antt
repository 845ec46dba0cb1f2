-- The verdict on a plan and its image is that on their front parts.
use Rattle.std.proofs.Common.{refl}
use Rattle.checker.proofs.Front.{tells_all as plan_tells_all}
use Rattle.image.proofs.Front.{tells_all as image_tells_all}
use Rattle.image.specs.Frames.{image_words}
use Rattle.admission.specs.Admitted.{TellsAll, admitted}

pub tells_all : TellsAll
unfolding admitted
tells_all bytes image n m small enough whole =
    let front = image_tells_all image m whole in
    rw (front.words, front.fault, plan_tells_all bytes (image_words image) n small enough) refl
