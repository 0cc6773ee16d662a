-- The texts that are printed.
use Rattle.std.specs.Prelude.{ℕ, List, [], ◌∷◌, Ok, Err, codes, decimal}
use Rattle.std.specs.Fmt.{signed_decimal}
use Rattle.refusals.specs.Texts.{text_of}
use Rattle.pages.specs.Faults.{fault_text as page_text}
use Rattle.survey.specs.Refusals.{take_text, limit_text, commit_text}
use Rattle.survey.specs.declared.call.Answer.{Answer}
use Rattle.survey.specs.declared.call.Answer.TheVariants.{Taken, Reported, Limited, Begun, Paged, Committed, Abandoned}
use Rattle.gauge.specs.declared.lines.TheConstants.{LONGEST_LINE, MOST_BYTES}
use Rattle.gauge.specs.declared.unreadable.Unreadable.{Unreadable}
use Rattle.gauge.specs.declared.unreadable.Unreadable.TheVariants.{Endless, TooLong, Unknown, NotOpen, Open, PlanKind, MapKind, Page}
use Rattle.gauge.specs.declared.reply.Reply.{Reply}
use Rattle.gauge.specs.declared.reply.Reply.TheVariants as of_reply

-- why a line makes no call
abbrev pub fault_text : Unreadable → List ℕ
fault_text Endless = text_of (codes "more than " ∷ decimal MOST_BYTES ∷ codes " bytes" ∷ [])
fault_text TooLong = text_of (codes "more than " ∷ decimal LONGEST_LINE ∷ codes " bytes" ∷ [])
fault_text Unknown = codes "unknown command"
fault_text NotOpen = codes "no recipe is open"
fault_text Open = codes "a recipe is open"
fault_text PlanKind = codes "another kind of plan"
fault_text MapKind = codes "another kind of map"
fault_text (Page e) = page_text e

-- what a call's answer tells
abbrev pub answer_text : Answer → List ℕ
answer_text (Taken (Ok n)) = text_of (codes "taken " ∷ decimal n ∷ [])
answer_text (Taken (Err e)) = take_text e
answer_text (Reported r) =
    text_of (
    codes "report level " ∷ decimal r.level ∷ codes " taken " ∷ decimal r.count
    ∷ codes " sum " ∷ signed_decimal r.sum ∷ codes " radius " ∷ decimal r.radius ∷ []
    )
answer_text (Limited (Ok _)) = codes "limited"
answer_text (Limited (Err e)) = limit_text e
answer_text Begun = codes "begun"
answer_text Paged = codes "paged"
answer_text (Committed (Ok _)) = codes "committed"
answer_text (Committed (Err e)) = commit_text e
answer_text Abandoned = codes "abandoned"

-- what a line is answered
abbrev pub reply_text : Reply → List ℕ
reply_text of_reply.Plan = codes "plan"
reply_text of_reply.Opened = codes "opened"
reply_text (of_reply.Answer a) = answer_text a
reply_text of_reply.NotAllowed = codes "not allowed"
reply_text (of_reply.Wrong line e) = text_of (codes "line " ∷ decimal line ∷ codes ": " ∷ fault_text e ∷ [])
