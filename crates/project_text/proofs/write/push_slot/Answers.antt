use Rattle.std.proofs.Common.{◌≡◌, ◌++◌, ◌∙◌, sym, ap, subst}
use Rattle.std.proofs.lemmas.List.{append-nil}
use Rattle.std.specs.Prelude.{flat_map, OnOk}
use Rattle.std.specs.Option.{option_to_list}
use Rattle.project_text.specs.Pushed.{feature_text}
use Rattle.project_text.proofs.write.push_slot.Goals as goal

pub returns-in-Some : goal.returns-in-Some
returns-in-Some c =
    let text = feature_text c.args.store.now.classes in
    subst (λ t. OnOk c.push_feature_line.result (c.push_feature_line.new.out.items ≡ c.args.out.now.items ++ t))
    (sym (ap (λ o. flat_map text (option_to_list o)) c.in-Some.ensures ∙ append-nil (text c.in-Some.feature.now))) c.push_feature_line.ensures

pub returns-in-None : goal.returns-in-None
returns-in-None c = rw c.in-None.ensures (sym (append-nil c.args.out.now.items))
