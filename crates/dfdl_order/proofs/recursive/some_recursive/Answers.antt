use Rattle.std.proofs.Common.{◌<◌, ℕ, List, length, sym, ap, subst, ◌∙◌, nat_lt, get_or}
use Rattle.std.proofs.lemmas.Bool.{ltb-true}
use Rattle.dfdl_order.specs.Parts.{Places}
use Rattle.dfdl_order.specs.Filling.{IsListing, with_one}
use Rattle.dfdl_order.specs.Reaching.{IsWay}
use Rattle.dfdl_order.proofs.Reach.{way_none, way_on, way_back}
use Rattle.dfdl_order.proofs.recursive.some_recursive.Goals as goal

pub loop-way-init : goal.loop-way-init
loop-way-init c = record {
  way = way_none c.args.uses.now c.in_ok-way.way c.args.start c.in_ok-way.ensures.part.listing (ap (λ (xs : List ℕ). length xs) c.in_ok-way.ensures.none);
  unplaced = c.requires.unplaced;
}

pub loop-way-preserved-in-Some : goal.loop-way-preserved-in-Some
loop-way-preserved-in-Some c =
    let listing : IsListing (length c.args.uses.now) (with_one c.loop-way.way c.loop-way.component)
    = subst (λ (n : ℕ). IsListing n (with_one c.loop-way.way c.loop-way.component)) c.count-count.ensures
    (subst (IsListing c.count-count.result) c.in_ok-put.ensures.put c.put.ensures.listing) in record {
      way = subst (λ (o : Places). IsWay c.args.uses.now o c.in-Some.part) (sym c.in_ok-put.ensures.put)
          (way_on c.args.uses.now c.loop-way.way c.loop-way.component c.in-Some.part c.loop-way.invariant.way listing c.in-Some.ensures.part.part);
      unplaced = c.in-Some.ensures.part.unplaced;
    }

pub returns : goal.returns
returns c =
    let has : get_or c.loop-way.way.rank c.loop-way.component 0 < length c.args.uses.now
    = ltb-true (get_or c.loop-way.way.rank c.loop-way.component 0) (length c.args.uses.now)
    (ap (λ (n : ℕ). nat_lt (get_or c.loop-way.way.rank c.loop-way.component 0) n) (sym c.count-count.ensures) ∙ (sym c.has.ensures ∙ c.loop-way-test.false)) in (
      c.loop-way.invariant.unplaced.0,
      way_back c.args.uses.now c.loop-way.way c.loop-way.component c.loop-way.invariant.way c.loop-way.invariant.unplaced.0 has,
    )
