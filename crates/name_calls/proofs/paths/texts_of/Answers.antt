use Rattle.std.proofs.Common.{◌≡◌, ◌∙◌, ◌<◌, ℕ, List, [], Bor, ap, sym, map, length, get_or, true}
use Rattle.std.proofs.lemmas.List.{get_or-map, length-map}
use Rattle.std.specs.List.{list_all}
use Rattle.name_calls.specs.Paths.{is_component}
use Rattle.name_calls.proofs.PathLemmas.{each-at}
use Rattle.name_calls.proofs.paths.texts_of.Goals as goal

borrowed : (xs : List (Bor (List ℕ))) (k : ℕ) (d : Bor (List ℕ)) → list_all is_component (map (λ x. x.now) xs) ≡ true → k < length xs → is_component (get_or xs k d).now ≡ true
borrowed xs k d h b =
    ap is_component (sym (get_or-map (λ (x : Bor (List ℕ)). x.now) xs k d [] b))
    ∙ each-at is_component (map (λ (x : Bor (List ℕ)). x.now) xs) k [] h (rw length-map b)

pub text_of-requires : goal.text_of-requires
text_of-requires c = borrowed c.args.names.now c.loop-name.name-index _ c.requires c.loop-name-test.true
