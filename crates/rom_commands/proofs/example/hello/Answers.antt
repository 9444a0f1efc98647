use Rattle.std.proofs.Common.{◌∙◌, ℕ, List, [], ◌∷◌, ap}
use Rattle.rom_fields.specs.Words.{with_word_be}
use Rattle.rom_commands.specs.Hello.{with_words, hello_image}
use Rattle.rom_commands.proofs.example.hello.Goals as goal

pub returns : goal.returns
unfolding hello_image with_word_be
returns c =
    c.put_words-5.ensures
    ∙ ap (λ (b : List ℕ). with_words b 128 (1751477356 ∷ 1862270976 ∷ [])) (c.put_words-4.ensures
    ∙ ap (λ (b : List ℕ). with_words b 96 (2 ∷ 0 ∷ 5 ∷ 2667577337 ∷ 1627389952 ∷ [])) (c.put_words-3.ensures
    ∙ ap (λ (b : List ℕ). with_words b 64 (96 ∷ 32 ∷ 0 ∷ 3520200576 ∷ 774766592 ∷ [])) (c.put_words-2.ensures
    ∙ ap (λ (b : List ℕ). with_words b 32 (73 ∷ 32 ∷ 0 ∷ 3523215255 ∷ 771751936 ∷ [])) c.put_words.ensures)))
