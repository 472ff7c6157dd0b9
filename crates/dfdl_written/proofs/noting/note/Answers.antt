use Rattle.std.proofs.Common.{◌≡◌, ◌<◌, ◌∷◌, All, List, ap, arith, length, subst, suc, sym}
use Rattle.std.proofs.lemmas.List.Elements.{All-nil}
use Rattle.std.specs.Vec.Iter.{into_iter_items, into_iter_len}
use Rattle.dfdl_components.specs.Globals.{site}
use Rattle.dfdl_written.specs.Noting.{IsNotedWithin, StatesWithin, noted_each}
use Rattle.dfdl_written.specs.declared.noted.Noted.{Noted}
use Rattle.dfdl_written.specs.declared.noted.Stated.{Stated}
use Rattle.dfdl_written.proofs.Told.{each_begin, each_end, each_more}
use Rattle.dfdl_written.proofs.Zipped.{none_left}
use Rattle.dfdl_written.proofs.noting.note.Goals as goal

pub loop-one-init : goal.loop-one-init
loop-one-init c =
    let front = c.into_iter-one-iterator.ensures.into_iter_gives.0 in (
      each_begin c.args.schema.now c.args.sites.now c.args.stated.items (into_iter_items c.into_iter-one-iterator.result) c.new-noted.result.items
          c.new-noted.ensures.items front,
      omega (arith, ap (λ (xs : List Stated). length xs) front, c.requires.counted),
      omega (arith, c.into_iter-one-iterator.ensures.into_iter_gives.1, ap (λ (xs : List Stated). length xs) front, c.args.stated.ok.0),
      subst (λ (xs : List Stated). All (StatesWithin c.args.schema.now) xs) (sym front) c.requires.within,
      subst (λ (xs : List Noted). All (IsNotedWithin c.args.schema.now) xs) (sym c.new-noted.ensures.items) (All-nil (IsNotedWithin c.args.schema.now)),
    )

pub push_stated-requires-clause-stated : goal.push_stated-requires-clause-stated
push_stated-requires-clause-stated c =
    let all : All (StatesWithin c.args.schema.now) (c.in-Some.one ∷ into_iter_items c.next.new.self)
    = subst (λ (xs : List Stated). All (StatesWithin c.args.schema.now) xs) c.in-Some.ensures.steps.0 c.loop-one.invariant.3 in
    all 0 c.in-Some.one (omega arith)

pub loop-one-preserved : goal.loop-one-preserved
loop-one-preserved c =
    let steps : into_iter_items c.loop-one.one-iterator ≡ c.in-Some.one ∷ into_iter_items c.next.new.self = c.in-Some.ensures.steps.0 in
    let less : c.loop-one.at < length c.args.sites.now = omega (arith, ap (λ (xs : List Stated). length xs) steps, c.loop-one.invariant.1) in
    let left : All (StatesWithin c.args.schema.now) (c.in-Some.one ∷ into_iter_items c.next.new.self)
    = subst (λ (xs : List Stated). All (StatesWithin c.args.schema.now) xs) steps c.loop-one.invariant.3 in (
      each_more c.args.schema.now c.args.sites.now c.loop-one.at (site 0 0) c.in-Some.one (into_iter_items c.next.new.self) (into_iter_items c.loop-one.one-iterator)
          c.loop-one.noted.items c.push_stated.new.noted.items _ less steps c.in_ok-push_stated.ensures.noted c.loop-one.invariant.0,
      omega (arith, ap (λ (xs : List Stated). length xs) steps, c.loop-one.invariant.1),
      omega (arith, c.in-Some.ensures.steps.1, ap (λ (xs : List Stated). length xs) steps, c.loop-one.invariant.2),
      (λ k d few. left (suc k) d (omega (arith, few))),
      c.in_ok-push_stated.ensures.within,
    )

pub returns-clause-noted : goal.returns-clause-noted
returns-clause-noted c =
    each_end c.args.schema.now _ (into_iter_items c.loop-one.one-iterator) c.loop-one.noted.items (noted_each c.args.schema.now c.args.sites.now c.args.stated.items)
    (none_left (into_iter_items c.loop-one.one-iterator) (into_iter_len c.loop-one.one-iterator) c.in-None.ensures.steps.0 c.loop-one.invariant.2)
    c.loop-one.invariant.0
