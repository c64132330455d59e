-- What a stage in the headers is after a character, over its fields.
use Rattle.std.proofs.Common.{◌≡◌, ℕ, ◌≤◌, List, [], ◌∷◌, ◌++◌, length, map, refl, sym, ap, ◌∙◌, subst, arith, Option, append-nil, IsUtf8}
use Rattle.std.specs.Str.{chars}
use Rattle.gabc_places.specs.BoundedList.{BoundedList, extended_by}
use Rattle.gabc_places.specs.declared.place.Place.{Place}
use Rattle.gabc_places.specs.declared.limits.Limits.{Limits}
use Rattle.gabc_places.specs.declared.code.Finding.{Finding}
use Rattle.gabc_headers.specs.declared.head_event.HeadEvent.{HeadEvent}
use Rattle.gabc_headers.specs.declared.head_event.HeadEvent.TheVariants.{Found, End}
use Rattle.gabc_headers.specs.declared.header_machine.HeaderMachine.{HeaderMachine}
use Rattle.gabc_headers.specs.declared.header_stage.HeadPart.{HeadPart}
use Rattle.gabc_headers.specs.declared.header_stage.HeadPart.TheVariants.{InHeaders, After, Stopped, Over}
use Rattle.gabc_headers.specs.Heads.{heads_of}
use Rattle.gabc_headers.specs.witness.HeadEvents.{IsInHeaders, reading, after_headers, over, HeaderStageState, stage_at, events_at, events_at_end, events_of_end, text_held, progress_with}
use Rattle.gabc_headers.specs.machine.Collected.{found_list, name_found}
use Rattle.gabc_headers.specs.Entries.{spelled_entries}
use Rattle.gabc_headers.specs.ShownStage.{book_in, progress_in}
use Rattle.gabc_headers.specs.machine.EntryMap.{EntryMapState}
use Rattle.gabc_headers.specs.machine.HeaderStage.{IsReading, KeepsHeaders, IsStageIn, part_over}
use Rattle.gabc_headers.proofs.stages.EventsOfAStage.{values_lie_within}

-- what the fields show
abbrev pub view_of : Limits → HeadPart → List ℕ → EntryMapState → HeaderStageState
view_of limits part text headers = record {
  limits = limits;
  progress = progress_in part text (book_in part text headers.0);
  book = book_in part text headers.0;
  hasher = headers.2;
}

-- a stage in the headers
pub record StandsInHeaders (limits : Limits) (part : HeadPart) (text : List ℕ) (space : ℕ) (machine : HeaderMachine) (headers : EntryMapState) : Type 0 where
  pub part_is : part ≡ InHeaders
  pub reads : IsReading limits text space machine headers

pub stands : (limits : Limits) (part : HeadPart) (text : List ℕ) (space : ℕ) (machine : HeaderMachine) (headers : EntryMapState) (view : HeaderStageState)
    → view_of limits part text headers ≡ view → IsInHeaders view.progress → IsStageIn part limits text space machine headers → StandsInHeaders limits part text space machine headers
stands limits part text space machine headers view e r i = grind arith

-- the events of a character are those at the text
pub events_in : (limits : Limits) (part : HeadPart) (text : List ℕ) (headers : EntryMapState) (view : HeaderStageState) (c : ℕ) → part ≡ InHeaders → view_of limits part text headers ≡ view
    → events_at view.limits (text_held view.progress) c ≡ events_at limits (chars text) c
events_in limits part text headers view c p e = sym (ap (λ (v : HeaderStageState). events_at v.limits (text_held v.progress) c) e) ∙ ap (λ (p : HeadPart). events_at limits (text_held (progress_in p text (book_in p text headers.0))) c) p

-- what is added for it
pub out_is : (limits : Limits) (part : HeadPart) (text : List ℕ) (headers : EntryMapState) (view : HeaderStageState) (c : ℕ) (events : List HeadEvent) (out new : BoundedList HeadEvent)
    → part ≡ InHeaders → view_of limits part text headers ≡ view → events_at limits (chars text) c ≡ events → new ≡ extended_by out events
    → new ≡ extended_by out (events_at view.limits (text_held view.progress) c)
out_is limits part text headers view c events out new p e q n = n ∙ ap (extended_by out) (sym (events_in limits part text headers view c p e ∙ q))

pub few_is : (limits : Limits) (part : HeadPart) (text : List ℕ) (headers : EntryMapState) (view : HeaderStageState) (c : ℕ) (events : List HeadEvent)
    → part ≡ InHeaders → view_of limits part text headers ≡ view → events_at limits (chars text) c ≡ events → length events ≤ 2
    → length (events_at view.limits (text_held view.progress) c) ≤ 2
few_is limits part text headers view c events p e q l = subst (λ (x : List HeadEvent). length x ≤ 2) (sym (events_in limits part text headers view c p e ∙ q)) l

-- the state after a character with which the headers go on
pub state_on : (limits : Limits) (part : HeadPart) (text more : List ℕ) (headers now : EntryMapState) (view : HeaderStageState) (c : ℕ) → part ≡ InHeaders → view_of limits part text headers ≡ view
    → now.2 ≡ headers.2 → progress_with limits (chars text) c ≡ reading (chars more) → view_of limits part more now ≡ stage_at view (progress_with view.limits (text_held view.progress) c)
state_on limits part text more headers now view c p e h q = rw (← e, p, q, h) refl

-- with which they are stopped
pub state_over : (limits : Limits) (part : HeadPart) (text : List ℕ) (headers : EntryMapState) (view new : HeaderStageState) (c : ℕ) → part ≡ InHeaders → view_of limits part text headers ≡ view
    → progress_with limits (chars text) c ≡ over → new ≡ stage_at view over → new ≡ stage_at view (progress_with view.limits (text_held view.progress) c)
state_over limits part text headers view new c p e q n = n ∙ rw (← e, p, q) refl

-- with which they are whole
pub state_after : (limits : Limits) (part : HeadPart) (text : List ℕ) (headers : EntryMapState) (view : HeaderStageState) (c : ℕ) → part ≡ InHeaders → view_of limits part text headers ≡ view
    → progress_with limits (chars text) c ≡ after_headers (spelled_entries text headers.0) → view_of limits After text headers ≡ stage_at view (progress_with view.limits (text_held view.progress) c)
state_after limits part text headers view c p e q = rw (← e, p, q) refl

-- ---- the end

pub end_reading : (limits : Limits) (part : HeadPart) (text : List ℕ) (headers : EntryMapState) (view : HeaderStageState) (events : List HeadEvent) → part ≡ InHeaders → view_of limits part text headers ≡ view
    → events_at_end (heads_of limits (chars text)) ≡ events → events_of_end view.limits view.progress ≡ events
end_reading limits part text headers view events p e q = sym (ap (λ (v : HeaderStageState). events_of_end v.limits v.progress) e) ∙ (ap (λ (p : HeadPart). events_of_end limits (progress_in p text (book_in p text headers.0))) p ∙ q)

pub end_after : (limits : Limits) (part : HeadPart) (text : List ℕ) (headers : EntryMapState) (view : HeaderStageState) → part ≡ After → view_of limits part text headers ≡ view
    → events_of_end view.limits view.progress ≡ End ∷ []
end_after limits part text headers view p e = sym (ap (λ (v : HeaderStageState). events_of_end v.limits v.progress) e) ∙ ap (λ (p : HeadPart). events_of_end limits (progress_in p text (book_in p text headers.0))) p

pub end_over : (limits : Limits) (part : HeadPart) (text : List ℕ) (headers : EntryMapState) (view : HeaderStageState) → part ≡ Over → view_of limits part text headers ≡ view
    → events_of_end view.limits view.progress ≡ []
end_over limits part text headers view p e = sym (ap (λ (v : HeaderStageState). events_of_end v.limits v.progress) e) ∙ ap (λ (p : HeadPart). events_of_end limits (progress_in p text (book_in p text headers.0))) p

pub end_stopped : (limits : Limits) (part : HeadPart) (text : List ℕ) (headers : EntryMapState) (view : HeaderStageState) → part ≡ Stopped → view_of limits part text headers ≡ view
    → events_of_end view.limits view.progress ≡ []
end_stopped limits part text headers view p e = sym (ap (λ (v : HeaderStageState). events_of_end v.limits v.progress) e) ∙ ap (λ (p : HeadPart). events_of_end limits (progress_in p text (book_in p text headers.0))) p

-- ---- after the last event

pub shows_over : (limits : Limits) (part : HeadPart) (text : List ℕ) (headers : EntryMapState) (view : HeaderStageState) → view_of limits part text headers ≡ view
    → view_of limits (part_over part) text headers ≡ stage_at view over
shows_over limits part text headers view e = grind arith

-- ---- few events

pub few_found : (found : Option Finding) → length (map (λ f. Found f) (found_list found)) ≤ 2
few_found found = grind arith

pub few_heads : (place : Place) (book : List (List ℕ × List ℕ)) (event : HeadEvent) → length (map (λ f. Found f) (name_found place book) ++ event ∷ []) ≤ 2
few_heads place book event = grind arith

-- ---- wherever a stage stands

-- it keeps its memory, and the values lie in its text
pub keeps : (limits : Limits) (part : HeadPart) (text : List ℕ) (space : ℕ) (machine : HeaderMachine) (headers : EntryMapState) → IsUtf8 text → IsStageIn part limits text space machine headers
    → KeepsHeaders limits text space headers
keeps limits part text space machine headers u i = grind (arith, values_lie_within)

pub stands_over : (limits : Limits) (part : HeadPart) (text : List ℕ) (space : ℕ) (machine : HeaderMachine) (headers : EntryMapState) → KeepsHeaders limits text space headers
    → IsStageIn (part_over part) limits text space machine headers
stands_over limits part text space machine headers k = grind arith

pub nothing_added : {T : Type 0} (out : BoundedList T) → out ≡ extended_by out []
nothing_added out = ap (λ (x : List _). record out { items = x }) (sym (append-nil out.items))
