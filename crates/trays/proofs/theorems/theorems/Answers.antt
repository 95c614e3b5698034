use Rattle.trays.proofs.Back.{back, whole}
use Rattle.trays.proofs.OneWay.{one_way}
use Rattle.trays.proofs.Orders.{in_order, reader_one_way}
use Rattle.trays.proofs.theorems.theorems.Goals as goal

pub returns : goal.returns
returns c = record { one_way = one_way; back = back; whole = whole; reader = reader_one_way; requests = in_order }
