use Rattle.std.proofs.Common.{◌≡◌, ◌+◌, ℕ, List, length, take, drop, ◌∙◌, ap, arith}
use Rattle.std.proofs.lemmas.List.{drop-drop, drop-take, take-take}
use Rattle.frame_log.specs.FormatTwo.{selector_in}
use Rattle.frame_log.specs.FoundIn.{as_selector, selector_bytes_at}
use Rattle.frame_log.proofs.FoundLemmas.{chosen_is}
use Rattle.frame_log.proofs.selecting.read_selectors.Goals as goal

pub returns-clause-choice : goal.returns-clause-choice
returns-clause-choice g c tells =
    let R = (g.D.Disk.state c.args.disk.now).reads c.args.file in
    let at = c.args.at in
    let size : length c.read_all.new.buf ≡ 34 = omega arith in
    let bytes : c.read_all.new.buf ≡ take 34 (drop at R) = c.in_ok-read_all.ensures.bytes tells ∙ ap (λ (k : ℕ). take k (drop at R)) size in
    let first : as_selector c.selector_of-first.result ≡ selector_in (selector_bytes_at at R) =
    c.selector_of-first.ensures ∙ ap selector_in (ap (λ (l : List ℕ). take 17 l) bytes ∙ take-take 17 34 (drop at R) (omega arith)) in
    let second : as_selector c.selector_of-second.result ≡ selector_in (selector_bytes_at (at + 17) R) =
    c.selector_of-second.ensures
    ∙ ap selector_in
    (ap (λ (l : List ℕ). take 17 (drop 17 l)) bytes
    ∙ ap (λ (l : List ℕ). take 17 l) (drop-take 17 17 (drop at R))
    ∙ take-take 17 17 (drop 17 (drop at R)) (omega arith)
    ∙ ap (λ (l : List ℕ). take 17 l) (drop-drop 17 at R)) in
    chosen_is at _ _ _ _ c.choose.result first second c.choose.ensures
