-- What is answered to a call about a path that leaves the image as it was.
use Rattle.std.proofs.Common.{◌≡◌, ◌∙◌, sym, ap, List, ℕ, Option, Result}
use Rattle.rom_tree.specs.Image.{Image}
use Rattle.rom_tree.specs.Tree.{Node}
use Rattle.open_files.specs.declared.error.CallError.{CallError}
use Rattle.open_files.specs.declared.slot.OpenNode.{OpenNode}
use Rattle.open_files.specs.Calls.{Answer, answer}
use Rattle.open_files.specs.Machine.{Table, image_calls}
use Rattle.open_files.specs.Slots.{image_view, table_of}
use Rattle.serve_lines.specs.declared.word.PathCall.{PathCall}
use Rattle.serve_lines.specs.Commands.{on_path}
use Rattle.rom_serve.specs.Obeyed.{says, said, result_text, obeyed}

pub path_said : {R : Type 0} (f : R → List ℕ) (m n : Image) (slots : List (Option OpenNode)) (path : List ℕ)
    (k l : PathCall) (a : Answer (Table Node) R) (r : Result R CallError)
    (text : List ℕ) → k ≡ l → obeyed (image_calls 64 m) (table_of (image_view m) slots) (on_path l path) ≡ said f a
    → a ≡ answer r (table_of (image_view m) slots) → text ≡ result_text f r → n ≡ m
    → obeyed (image_calls 64 m) (table_of (image_view m) slots) (on_path k path)
    ≡ says text (table_of (image_view n) slots)
path_said f m n slots path k l a r text is by gives known stays =
    ap (λ (x : PathCall). obeyed (image_calls 64 m) (table_of (image_view m) slots) (on_path x path)) is ∙ by
    ∙ ap (said f) gives ∙ ap (λ (t : List ℕ). says t (table_of (image_view m) slots)) (sym known)
    ∙ ap (λ (i : Image). says text (table_of (image_view i) slots)) (sym stays)
