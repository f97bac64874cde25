use Rattle.std.proofs.Common.{◌∙◌, ap, List}
use Rattle.std.specs.Prelude.{slice_set, map, min, vec_capacity, vec_len, ◌-◌}
use Rattle.page_catalogue.specs.declared.states.PageState.{PageState}
use Rattle.page_catalogue.specs.Private.{state_in}
use Rattle.page_catalogue.specs.Catalogues.{Catalogued}
use Rattle.page_catalogue.proofs.Places.{map_set}
use Rattle.page_catalogue.proofs.catalogue.Catalogue.mark.Goals as goal

pub returns : goal.returns
returns c =
    let me = c.self.inside in
    let at = c.args.page.number in
    let set = map_set state_in me.places.items at c.of.result ∙ ap (λ (s : PageState). slice_set (map state_in me.places.items) at s) c.of.ensures in
    let with = λ (ps : List PageState). let v : Catalogued = record {
      rules = me.rules;
      closings = me.closings.items;
      places = ps;
      gone = me.gone;
      clock = me.clock;
      room = min (vec_capacity me.closings - vec_len me.closings) (vec_capacity me.places - vec_len me.places);
    } in v in
    ap with set ∙ ap (λ (v : Catalogued). let w : Catalogued = record v { places = slice_set v.places at c.args.state } in w) c.self.view_is
