use Rattle.std.proofs.Common.{◌≡◌, ◌∙◌, ap}
use Rattle.std.proofs.lemmas.Result.{on_ok_weaker}
use Rattle.rapid_line.specs.Grammar.{spelling}
use Rattle.rapid_text.specs.declared.causes.Kind.{Kind}
use Rattle.rapid_text.specs.declared.causes.Kind.TheVariants as kinds
use Rattle.rapid_text.specs.Tables.{name_at}
use Rattle.rapid_text.specs.Events.{named_by, kind_of}
use Rattle.rapid_text.proofs.PutsProperties.{put_both, put_same}
use Rattle.rapid_text.proofs.WriteEventLaws.{name_found, event_parts}
use Rattle.rapid_text.proofs.writing.put_event.Goals as goal

pub returns-clause-ok : goal.returns-clause-ok
returns-clause-ok g c =
    let names = c.args.names.now in
    let e = named_by names c.args.event.now in
    let t = c.name-thread.result.now in
    let s = c.spelled.result.now in
    let a = c.name-argument.result.now in
    let l = c.name-location.result.now in
    let k = c.parts_of-word.result.1 in
    let n = c.parts_of-word.result.2 in
    let thread : t ≡ e.thread =
    name_found names kinds.Thread c.args.event.now.thread.0 t c.name-thread.ensures.is in
    let word : s ≡ spelling e.word = c.spelled.ensures ∙ ap spelling c.parts_of-word.ensures.word in
    let argument : a ≡ e.argument = name_found names k n a c.name-argument.ensures.is
    ∙ ap (λ (k : Kind). name_at names k n) c.parts_of-word.ensures.kind
    ∙ ap (name_at names (kind_of e.word)) c.parts_of-word.ensures.number in
    let location : l ≡ e.location =
    name_found names kinds.Site c.args.event.now.site.0 l c.name-location.ensures.is in
    on_ok_weaker c.put-7.result
    (λ h. put_same (event_parts t s a l e thread word argument location)
    (put_both c.in_ok-put.ensures.ok (put_both c.in_ok-put-2.ensures.ok (put_both c.in_ok-put-3.ensures.ok
    (put_both c.in_ok-put-4.ensures.ok (put_both c.in_ok-put-5.ensures.ok
    (put_both c.in_ok-put-6.ensures.ok h)))))))
    c.put-7.ensures.ok
