-- The rules' message that each struct stands for.
use Rattle.rules.specs.Messages as rules
use Rattle.rules.specs.Messages.{Message, station}
use Rattle.item.specs.Patterns.{patterns}
use Rattle.wire.specs.declared.structs.PartialList.{PartialList}
use Rattle.wire.specs.declared.structs.SetCurrent.{SetCurrent}
use Rattle.wire.specs.declared.structs.Current.{Current}
use Rattle.wire.specs.declared.structs.RequestList.{RequestList}
use Rattle.wire.specs.declared.structs.Count.{Count}
use Rattle.wire.specs.declared.structs.ClearAll.{ClearAll}
use Rattle.wire.specs.declared.structs.Ack.{Ack}
use Rattle.wire.specs.declared.structs.RequestInt.{RequestInt}
use Rattle.wire.specs.declared.structs.ItemInt.{ItemInt}
use Rattle.wire.specs.declared.structs.Statustext.{Statustext}

abbrev pub partial_list_message : PartialList → Message
partial_list_message m = rules.partial_list (station m.system m.component) m.start m.end m.kind

abbrev pub set_current_message : SetCurrent → Message
set_current_message m = rules.set_current (station m.system m.component) m.seq

abbrev pub current_message : Current → Message
current_message m = rules.current m.seq m.total m.state m.mode m.mission m.fence m.rally

abbrev pub request_list_message : RequestList → Message
request_list_message m = rules.request_list (station m.system m.component) m.kind

abbrev pub count_message : Count → Message
count_message m = rules.count (station m.system m.component) m.count m.kind m.number

abbrev pub clear_all_message : ClearAll → Message
clear_all_message m = rules.clear_all (station m.system m.component) m.kind

abbrev pub ack_message : Ack → Message
ack_message m = rules.ack (station m.system m.component) m.result m.kind m.number

abbrev pub request_int_message : RequestInt → Message
request_int_message m = rules.request_int (station m.system m.component) m.seq m.kind

abbrev pub item_int_message : ItemInt → Message
item_int_message m = rules.item_int (station m.system m.component) m.current (patterns m.item)

abbrev pub statustext_message : Statustext → Message
statustext_message m = rules.statustext m.severity m.text m.id m.chunk
