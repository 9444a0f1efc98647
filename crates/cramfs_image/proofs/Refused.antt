-- The traversal of an image whose records are those of a forest is refused only if memory is.
use Rattle.std.proofs.Common.{◌≡◌, ℕ, List, refl}
use Rattle.record_forest.specs.declared.traversal.TraversalError.{TraversalError}
use Rattle.record_forest.specs.declared.traversal.TraversalError.TheVariants.{OutOfMemory, TooMany, Record, Twice}
use Rattle.record_forest.specs.Traversal.{IsLeastRefusal}
use Rattle.record_forest.specs.Forest.{Forest, IsForest}
use Rattle.cramfs_format.specs.declared.order.Order.{Order}
use Rattle.cramfs_format.specs.Refers.{references, LeadsToSound, LeadsToFault}
use Rattle.cramfs_image.proofs.Least.{no_reached_fault, no_twice_fault, not_too_many}

pub only_memory : (o : Order) (b : List ℕ) (most : ℕ) (f : Forest) (e : TraversalError)
    → IsForest (references o b) (LeadsToSound o b) most f
    → IsLeastRefusal (references o b) (LeadsToSound o b) (LeadsToFault o b) most e → e ≡ OutOfMemory
only_memory o b most f OutOfMemory h k = refl
only_memory o b most f TooMany h k = absurd (not_too_many h k)
only_memory o b most f (Record e) h k = absurd (no_reached_fault h e k.1.here)
only_memory o b most f (Twice q) h k = absurd (no_twice_fault h (record { number = 20; at = q }) (k.2.here, refl))
