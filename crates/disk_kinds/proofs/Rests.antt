-- The rest of a buffer after a read filled a part of it.
use Rattle.std.proofs.Common.{◌≡◌, ℕ, ◌+◌, ◌≤◌, List, ◌++◌, length, take, drop, sym, ap, ◌∙◌, length-take-le}
use Rattle.std.proofs.lemmas.List.{drop-drop, drop_at}

pub rest_kept : (buf new first : List ℕ) (done count : ℕ) → done ≤ length buf → drop count new ≡ drop count (drop done buf) → drop done buf ≡ drop done first → drop (done + count) (take done buf ++ new) ≡ drop (done + count) first
rest_kept buf new first done count within here before =
    sym (drop-drop count done (take done buf ++ new))
    ∙ ap (λ l. drop count l) (drop_at (take done buf) new done (length-take-le done buf within))
    ∙ here ∙ ap (λ l. drop count l) before ∙ drop-drop count done first
